use Rattle.std.proofs.Common.{◌≡◌, ◌==◌, ◌∷◌, [], ◌+◌, ◌∙◌, ap, sym, length, drop, length-append, lit<}
use Rattle.std.specs.List.{slice_split}
use Rattle.std.specs.Str.Iter.{split_text, split_has_more, split_pattern}
use Rattle.std.proofs.lemmas.Iterator.Consumers.{YieldsList-turn, YieldsList-end}
use Rattle.std.proofs.lemmas.Iterator.Splits.{YieldsList-from_str_split}
use Rattle.protorelay_commands.proofs.Paths.{behind, behind_more, behind_refused, behind_all}
use Rattle.protorelay_commands.proofs.path.numbers_of.Goals as goal

pub loop-digits-preserved : goal.loop-digits-preserved
loop-digits-preserved c =
    let pieces = slice_split (λ b. b == 46) c.args.text.now in
    let so_far = c.loop-digits.yielded in
    let given : c.into_iter-digits-iterator.result ≡ c.split-digits-items.result = cc in
    let turn = YieldsList-turn (YieldsList-from_str_split {s = c.into_iter-digits-iterator.result} 46 c.args.text.now (lit< tt) (ap split_text given ∙ c.split-digits-items.ensures.text) (ap split_has_more given ∙ c.split-digits-items.ensures.has_more) (ap split_pattern given ∙ c.split-digits-items.ensures.pattern)) so_far c.loop-digits.digits-iterator c.loop-digits.yielded_by c.next.result c.next.new.self c.in-Some.digits c.in-Some.is c.next.ensures.steps in
    c.loop-digits.invariant
    ∙ behind_more c.loop-digits.numbers.items pieces (length so_far) c.in-Some.digits.now c.in-Some-2.number turn.0 turn.1 (sym c.in-Some-2.is ∙ c.in_ok-number.ensures)
    ∙ ap (λ numbers. behind numbers (drop (length so_far + 1) pieces)) (sym c.in_ok-push-in-Some-2.ensures.items)
    ∙ ap (λ i. behind c.push.new.self.items (drop i pieces)) (sym (length-append so_far (c.in-Some.digits ∷ [])))

pub returns-in-None-2 : goal.returns-in-None-2
returns-in-None-2 c =
    let pieces = slice_split (λ b. b == 46) c.args.text.now in
    let so_far = c.loop-digits.yielded in
    let given : c.into_iter-digits-iterator.result ≡ c.split-digits-items.result = cc in
    let turn = YieldsList-turn (YieldsList-from_str_split {s = c.into_iter-digits-iterator.result} 46 c.args.text.now (lit< tt) (ap split_text given ∙ c.split-digits-items.ensures.text) (ap split_has_more given ∙ c.split-digits-items.ensures.has_more) (ap split_pattern given ∙ c.split-digits-items.ensures.pattern)) so_far c.loop-digits.digits-iterator c.loop-digits.yielded_by c.next.result c.next.new.self c.in-Some.digits c.in-Some.is c.next.ensures.steps in
    sym (c.loop-digits.invariant ∙ behind_refused c.loop-digits.numbers.items pieces (length so_far) c.in-Some.digits.now turn.0 turn.1 (sym c.in-None-2.is ∙ c.in_ok-number.ensures))

pub returns : goal.returns
returns c =
    let pieces = slice_split (λ b. b == 46) c.args.text.now in
    let so_far = c.loop-digits.yielded in
    let given : c.into_iter-digits-iterator.result ≡ c.split-digits-items.result = cc in
    let end = YieldsList-end (YieldsList-from_str_split {s = c.into_iter-digits-iterator.result} 46 c.args.text.now (lit< tt) (ap split_text given ∙ c.split-digits-items.ensures.text) (ap split_has_more given ∙ c.split-digits-items.ensures.has_more) (ap split_pattern given ∙ c.split-digits-items.ensures.pattern)) so_far c.loop-digits.digits-iterator c.loop-digits.yielded_by c.next.result c.next.new.self c.in-None.is c.next.ensures.steps in
    sym (c.loop-digits.invariant ∙ behind_all c.loop-digits.numbers.items pieces (length so_far) (sym end.1))
