use Rattle.std.proofs.Common.{rules, ◌≡◌, string_bytes, length, ◌++◌, refl, subst, sym}
use Rattle.std.specs.Str.{IsCharBoundary}
use Rattle.std.proofs.lemmas.Str.{IsCharBoundary-at_seam}
use Rattle.prost_reflect_tables.proofs.Cutting.{before_end, at_end}
use Rattle.prost_reflect_tables.proofs.definition_names.DefinitionNames.new.Goals as goal

pub invariant_of-result : goal.invariant_of-result
invariant_of-result c =
    let t : string_bytes c.in_ok-from_str.field-0 ≡ c.args.full_name.now = search rules in
    let f = before_end c.args.full_name.now c.args.name.now c.in-Some.scope.now c.utf8.name (search rules) (search rules) in
    record { cut = (subst (λ text. IsCharBoundary text (length c.args.full_name.now)) (sym t) (at_end c.args.full_name.now _ refl), subst (λ text. IsCharBoundary text (length c.in-Some.scope.now)) (sym t) f.1) }

pub invariant_of-result-2 : goal.invariant_of-result-2
invariant_of-result-2 c =
    let t : string_bytes c.push_str-2.new.self ≡ c.args.full_name.now ++ c.args.name.now = search rules in
    let f = IsCharBoundary-at_seam (string_bytes c.push_str-2.new.self) c.args.full_name.now c.args.name.now t c.utf8.name in
    record { cut = (f, f) }
