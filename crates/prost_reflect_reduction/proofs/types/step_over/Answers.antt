use Rattle.std.specs.Prelude.{◌≡◌, ◌+◌}
use Rattle.prost_reflect_reduction.proofs.Common.{nat_eq, nat_lt, true, false, get_or, Some, eq-eqb, ap, ap₂, sym, ◌∙◌, ne_eqb, le-ltb, lt-ltb, FieldTable, field_row, rows_of, schema_field, pair_fault, step_of, Number}
use Rattle.prost_reflect_reduction.proofs.Noting.{next_below, next_at, step_past, step_one, step_lacking, step_both}
use Rattle.prost_reflect_reduction.proofs.types.step_over.Goals as goal

pub bounds-newer-other-2 : goal.bounds-newer-other-2
bounds-newer-other-2 c = next_below c.args.newer.tables.now c.args.newer.fields.now c.args.newer.next.now c.args.other c.requires.newer c.requires.other

pub returns-then-place-older-clause-behind : goal.returns-then-place-older-clause-behind
returns-then-place-older-clause-behind c =
    step_past c.args.older.tables.now c.args.newer.tables.now c.args.older.fields.now c.args.newer.fields.now c.args.place c.args.other c.index-newer-other.result _ c.fellow_fault.result c.step_of.result c.if-place-older.true c.requires.other c.index-newer-other.is
    (next_at c.args.newer.tables.now c.args.newer.fields.now c.args.newer.next.now c.args.other c.index-newer-other.result c.requires.newer c.requires.other c.index-newer-other.is) c.fellow_fault.ensures
    (c.step_of.ensures ∙ ap (λ (y : FieldTable). step_of c.fellow_fault.result y.number c.args.place) (sym c.index-newer-other.is))

pub bounds-older-place-then-field-like : goal.bounds-older-place-then-field-like
bounds-older-place-then-field-like c = next_below c.args.older.tables.now c.args.older.fields.now c.args.older.next.now c.args.place c.requires.older c.if-place-older.false

pub returns-then-field-like-clause-behind : goal.returns-then-field-like-clause-behind
returns-then-field-like-clause-behind c =
    let same : nat_eq c.index-older-place.result.number c.index-newer-other.result.number ≡ true =
    ap₂ (λ (x y : FieldTable). nat_eq x.number y.number) c.index-older-place.is c.index-newer-other.is ∙ eq-eqb _ _ c.if-field-like.true in
    let fault = c.in_ok-fault.ensures.fault ∙ ap₂ (λ (x y : FieldTable). pair_fault (get_or c.args.older.next.now c.args.place 0) (get_or c.args.newer.next.now c.args.other 0) (schema_field (rows_of c.args.older.tables.now) (field_row x)) (schema_field (rows_of c.args.newer.tables.now) (field_row y))) (sym c.index-older-place.is) (sym c.index-newer-other.is) in
    step_both c.args.older.tables.now c.args.newer.tables.now c.args.older.fields.now c.args.newer.fields.now c.args.place c.args.other c.index-older-place.result c.index-newer-other.result _ _ c.in_ok-fault.fault c.step_of-then-field-like.result
    c.if-place-older.false c.index-older-place.is c.requires.other c.index-newer-other.is same
    (next_at c.args.older.tables.now c.args.older.fields.now c.args.older.next.now c.args.place c.index-older-place.result c.requires.older c.if-place-older.false c.index-older-place.is)
    (next_at c.args.newer.tables.now c.args.newer.fields.now c.args.newer.next.now c.args.other c.index-newer-other.result c.requires.newer c.requires.other c.index-newer-other.is) fault
    (c.step_of-then-field-like.ensures ∙ ap (λ (x : FieldTable). step_of c.in_ok-fault.fault x.number (c.args.place + 1)) (sym c.index-older-place.is))

pub returns-then-field-like-2-clause-behind : goal.returns-then-field-like-2-clause-behind
returns-then-field-like-2-clause-behind c =
    let differ : nat_eq c.index-older-place.result.number c.index-newer-other.result.number ≡ false =
    ap₂ (λ (x y : FieldTable). nat_eq x.number y.number) c.index-older-place.is c.index-newer-other.is ∙ ne_eqb _ _ c.if-field-like.false in
    let less : nat_lt c.index-older-place.result.number c.index-newer-other.result.number ≡ true =
    ap₂ (λ (x y : FieldTable). nat_lt x.number y.number) c.index-older-place.is c.index-newer-other.is ∙ lt-ltb _ _ c.if-field-like-2.true in
    step_lacking c.args.older.tables.now c.args.newer.tables.now c.args.older.fields.now c.args.newer.fields.now c.args.place c.args.other c.index-older-place.result c.index-newer-other.result c.step_of-then-field-like-2.result
    c.if-place-older.false c.index-older-place.is c.requires.other c.index-newer-other.is differ less
    (c.step_of-then-field-like-2.ensures ∙ ap (λ (x : FieldTable). step_of (Some Number) x.number c.args.place) (sym c.index-older-place.is))

pub returns-clause-behind : goal.returns-clause-behind
returns-clause-behind c =
    let differ : nat_eq c.index-older-place.result.number c.index-newer-other.result.number ≡ false =
    ap₂ (λ (x y : FieldTable). nat_eq x.number y.number) c.index-older-place.is c.index-newer-other.is ∙ ne_eqb _ _ c.if-field-like.false in
    let more : nat_lt c.index-older-place.result.number c.index-newer-other.result.number ≡ false =
    ap₂ (λ (x y : FieldTable). nat_lt x.number y.number) c.index-older-place.is c.index-newer-other.is ∙ le-ltb _ _ c.if-field-like-2.false in
    step_one c.args.older.tables.now c.args.newer.tables.now c.args.older.fields.now c.args.newer.fields.now c.args.place c.args.other c.index-older-place.result c.index-newer-other.result _ c.fellow_fault-2.result c.step_of-2.result
    c.if-place-older.false c.index-older-place.is c.requires.other c.index-newer-other.is differ more
    (next_at c.args.newer.tables.now c.args.newer.fields.now c.args.newer.next.now c.args.other c.index-newer-other.result c.requires.newer c.requires.other c.index-newer-other.is) c.fellow_fault-2.ensures
    (c.step_of-2.ensures ∙ ap (λ (y : FieldTable). step_of c.fellow_fault-2.result y.number c.args.place) (sym c.index-newer-other.is))
