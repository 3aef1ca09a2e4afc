use Rattle.std.specs.Prelude.{◌≡◌, ◌++◌, ◌∷◌, ◌||◌}
use Rattle.std.proofs.Common.{append_assoc}
use Rattle.prost_reflect_building.proofs.Common.{List, [], true, false, ap, ap₂, sym, ◌∙◌, map-append, not-true, not-false, FileDescriptorProto, files_of, shared_files, is_there, added, skipped, taken, names_stay, names_differ}
use Rattle.prost_reflect_building.proofs.Behind.{there_both}
use Rattle.prost_reflect_pool.proofs.FileNames.{differ_more}
use Rattle.prost_reflect_building.proofs.adding.add_file.Goals as goal

pub returns-then-is_known-clause-added : goal.returns-then-is_known-clause-added
returns-then-is_known-clause-added c =
    let there = files_of c.args.pool.now in
    let news = shared_files c.args.new.now.items in
    let known : is_there there c.args.file ≡ true = sym c.is_known.ensures ∙ c.if-is_known.true in
    λ batch. skipped (there ++ news) batch c.args.file (there_both there news c.args.file ∙ ap (λ b. b || is_there news c.args.file) known)

pub returns-in_ok-push-clause-added : goal.returns-in_ok-push-clause-added
returns-in_ok-push-clause-added c =
    let there = files_of c.args.pool.now in
    let news = shared_files c.args.new.now.items in
    let known : is_there there c.args.file ≡ false = sym c.is_known.ensures ∙ c.if-is_known.false in
    let fresh : is_there news c.args.file ≡ false = not-true _ (sym (c.in_ok-add_name.ensures.new news c.requires) ∙ c.if-branch.true) in
    let none : is_there (there ++ news) c.args.file ≡ false = there_both there news c.args.file ∙ ap₂ (λ a b. a || b) known fresh in
    let more : shared_files c.push.new.self.items ≡ news ++ c.args.file ∷ [] =
    ap shared_files c.in_ok-push.ensures.items ∙ (map-append (λ f. f.value) c.args.new.now.items (c.in_ok-new.field-0 ∷ []) ∙ ap (λ f. news ++ f ∷ []) c.in_ok-new.ensures.ok) in
    let whole : (there ++ news) ++ c.args.file ∷ [] ≡ there ++ shared_files c.push.new.self.items =
    append_assoc there news (c.args.file ∷ []) ∙ ap (λ (l : List FileDescriptorProto). there ++ l) (sym more) in
    λ batch. taken (there ++ news) batch c.args.file none ∙ ap (λ l. added l batch) whole

pub returns-in_ok-push-clause-differ : goal.returns-in_ok-push-clause-differ
returns-in_ok-push-clause-differ c =
    let there = files_of c.args.pool.now in
    let news = shared_files c.args.new.now.items in
    let known : is_there there c.args.file ≡ false = sym c.is_known.ensures ∙ c.if-is_known.false in
    let fresh : is_there news c.args.file ≡ false = not-true _ (sym (c.in_ok-add_name.ensures.new news c.requires) ∙ c.if-branch.true) in
    let none : is_there (there ++ news) c.args.file ≡ false = there_both there news c.args.file ∙ ap₂ (λ a b. a || b) known fresh in
    let more : shared_files c.push.new.self.items ≡ news ++ c.args.file ∷ [] =
    ap shared_files c.in_ok-push.ensures.items ∙ (map-append (λ f. f.value) c.args.new.now.items (c.in_ok-new.field-0 ∷ []) ∙ ap (λ f. news ++ f ∷ []) c.in_ok-new.ensures.ok) in
    let whole : (there ++ news) ++ c.args.file ∷ [] ≡ there ++ shared_files c.push.new.self.items =
    append_assoc there news (c.args.file ∷ []) ∙ ap (λ (l : List FileDescriptorProto). there ++ l) (sym more) in
    λ h. ap names_differ (sym whole) ∙ differ_more (there ++ news) c.args.file none h

pub returns-else-branch-clause-names : goal.returns-else-branch-clause-names
returns-else-branch-clause-names c =
    let news = shared_files c.args.new.now.items in
    let there : is_there news c.args.file ≡ true = not-false _ (sym (c.in_ok-add_name.ensures.new news c.requires) ∙ c.if-branch.false) in
    names_stay news c.args.file _ there (c.in_ok-add_name.ensures.names news c.requires)

pub returns-else-branch-clause-added : goal.returns-else-branch-clause-added
returns-else-branch-clause-added c =
    let pool = files_of c.args.pool.now in
    let news = shared_files c.args.new.now.items in
    let known : is_there pool c.args.file ≡ false = sym c.is_known.ensures ∙ c.if-is_known.false in
    let there : is_there news c.args.file ≡ true = not-false _ (sym (c.in_ok-add_name.ensures.new news c.requires) ∙ c.if-branch.false) in
    λ batch. skipped (pool ++ news) batch c.args.file (there_both pool news c.args.file ∙ ap₂ (λ a b. a || b) known there)
