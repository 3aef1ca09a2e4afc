-- Paths that are cleared one after another, and what is written then.
use Rattle.std.proofs.Common.{◌≡◌, ◌<◌, ◌≤◌, ◌^◌, ℕ, zero, suc, List, [], ◌∷◌, length, map, drop, get_or, Some, refl, ap, sym, ◌∙◌, subst, arith}
use Rattle.prost_reflect_wire.specs.Schema.{Schema, schema_valid}
use Rattle.prost_reflect_wire.specs.Content.{Content, ContentOf, schema_of, type_of}
use Rattle.prost_reflect_wire.specs.Levels.{levels}
use Rattle.prost_reflect_wire.specs.Varint.{AreBytes}
use Rattle.prost_reflect_laws.proofs.Kept.{kept_well}
use Rattle.prost_reflect_laws.proofs.NormalForms.{decoded_well}
use Rattle.prost_reflect_dynamic.specs.ReadBack.{ReadsBack}
use Rattle.prost_reflect_wire.specs.Grammar.{LEVEL_LIMIT, Accepts}
use Rattle.prost_reflect_wire.specs.Meaning.{decoded}
use Rattle.prost_reflect_wire.specs.Typing.{kept, WellStored}
use Rattle.prost_reflect_wire.specs.Writing.{encoded}
use Rattle.prost_reflect_wire.specs.Decoding.{Holds}
use Rattle.prost_reflect_tables.specs.Shown.{schema_from}
use Rattle.prost_reflect_pool.specs.SharedPools.{pool_rows}
use Rattle.prost_reflect_dynamic.specs.Named.{IsNamed, schema_named, type_named}
use Rattle.prost_reflect_dynamic.specs.View.{content_of, message_type_of}
use Rattle.prost_reflect_dynamic.specs.declared.descriptor.message.MessageDescriptor.{MessageDescriptor}
use Rattle.prost_reflect_dynamic.specs.declared.message.DynamicMessage.{DynamicMessage}
use Rattle.prost_reflect_dynamic.proofs.Merging.{valid_in}
use Rattle.prost_reflect_dynamic.proofs.NestedReads.{schema_in, type_in}
use Rattle.prototool_commands.specs.Redacting.{cleared_all, ClearsAlong, IsClearedAll, IsRedacted, IsTooLong}
use Rattle.prototool_commands.proofs.ClearedAlong.{cleared_holds, kept_all}
use Rattle.prototool_commands.proofs.ClearedLevels.{levels_all}

-- some of the paths were cleared, and these are left
pub record PathsSoFar (all left : List (List ℕ)) (old new : Content) : Type 0 where
  pub cleared : cleared_all left new ≡ cleared_all all old
  pub holds : Holds old new

pub no_path : (paths : List (List ℕ)) (c : Content) → WellStored c → PathsSoFar paths paths c c
no_path paths c w = record { cleared = refl; holds = record { schema = refl; type = refl; sound = w } }

one_path : (m new : DynamicMessage) (old : Content) (all left : List (List ℕ)) (path : List ℕ) → PathsSoFar all (path ∷ left) old (content_of m) → ClearsAlong path (content_of m) (content_of new) → PathsSoFar all left old (content_of new)
one_path m new old all left path s cleared =
    let so_far = s.holds in
    let is = cleared.cleared so_far.sound in
    let one = cleared_holds path (content_of m) (valid_in m) so_far.sound in
    record {
      cleared = ap (cleared_all left) is ∙ s.cleared;
      holds = record {
        schema = ap schema_of is ∙ one.schema ∙ so_far.schema;
        type = ap type_of is ∙ one.type ∙ so_far.type;
        sound = subst WellStored (sym is) one.sound;
      };
    }

drop_next : {V : Type 0} (xs : List V) (i j : ℕ) (d : V) → i < length xs → j ≡ suc i → drop i xs ≡ get_or xs i d ∷ drop j xs
drop_next [] i j d less next = absurd (omega (arith, less))
drop_next (y ∷ xs) zero j d less next = ap (λ k. y ∷ drop k (y ∷ xs)) (sym next)
drop_next (y ∷ xs) (suc i) j d less next = drop_next xs i (suc i) d (omega (arith, less)) refl ∙ ap (λ k. get_or xs i d ∷ drop k (y ∷ xs)) (sym next)

pub next_path : {V : Type 0} (items : V → List ℕ) (m new : DynamicMessage) (old : Content) (xs : List V) (i j : ℕ) (d : V) (path : List ℕ) → i < length xs → j ≡ suc i → path ≡ items (get_or xs i d) → PathsSoFar (map items xs) (map items (drop i xs)) old (content_of m)
    → ClearsAlong path (content_of m) (content_of new) → PathsSoFar (map items xs) (map items (drop j xs)) old (content_of new)
next_path items m new old xs i j d path less next at s cleared =
    one_path m new old (map items xs) (map items (drop j xs)) (items (get_or xs i d)) (subst (λ ys. PathsSoFar (map items xs) (map items ys) old (content_of m)) (drop_next xs i j d less next) s) (subst (λ p. ClearsAlong p (content_of m) (content_of new)) at cleared)

drop_all : {V : Type 0} (xs : List V) (i : ℕ) → length xs ≤ i → drop i xs ≡ []
drop_all [] zero l = refl
drop_all [] (suc i) l = refl
drop_all (x ∷ xs) zero l = absurd (omega (arith, l))
drop_all (x ∷ xs) (suc i) l = drop_all xs i (omega (arith, l))

pub every_path : {V : Type 0} (items : V → List ℕ) (old new : Content) (xs : List V) (i : ℕ) → length xs ≤ i → PathsSoFar (map items xs) (map items (drop i xs)) old new → IsClearedAll (map items xs) old new
every_path items old new xs i l s =
    let whole : PathsSoFar (map items xs) [] old new = subst (λ ys. PathsSoFar (map items xs) (map items ys) old new) (drop_all xs i l) s in
    record { cleared = whole.cleared; holds = whole.holds }

-- WHAT IS WRITTEN

kept_schema : (c : Content) → schema_of (kept c) ≡ schema_of c
kept_schema (ContentOf schema T es) = refl

kept_type : (c : Content) → type_of (kept c) ≡ type_of c
kept_type (ContentOf schema T es) = refl

well_kept : (c : Content) → WellStored c → WellStored (kept c)
well_kept c w = let typed = kept_well c w in let fitting = typed.fitting in record { fits = fitting.fits; types = fitting.types; order = fitting.order; members = typed.members }

-- what is kept of the message that was cleared nests within the limit
within : (schema : Schema) (T : ℕ) (paths : List (List ℕ)) (bytes : List ℕ) (m : DynamicMessage) → AreBytes bytes → schema_of (content_of m) ≡ schema → decoded schema LEVEL_LIMIT T bytes ≡ Some (kept (content_of m)) → WellStored (content_of m)
    → levels (cleared_all paths (kept (content_of m))) ≤ LEVEL_LIMIT
within schema T paths bytes m small same means w =
    let content = kept (content_of m) in
    let read = decoded_well schema LEVEL_LIMIT T bytes content small (ap schema_valid (sym same) ∙ valid_in m) means in
    let low = read.1 in
    let less = levels_all paths content (ap schema_valid (kept_schema (content_of m)) ∙ valid_in m) (well_kept (content_of m) w) in
    omega (arith, low, less)

pub named_schema : (d : MessageDescriptor) (m : DynamicMessage) → IsNamed d (message_type_of m) → schema_of (content_of m) ≡ schema_named d
named_schema d m named = schema_in m ∙ ap (λ pool. schema_from (pool_rows pool)) named.0

pub named_type : (d : MessageDescriptor) (m : DynamicMessage) → IsNamed d (message_type_of m) → type_of (content_of m) ≡ type_named d
named_type d m named = type_in m ∙ named.1

pub is_redacted : (schema : Schema) (T : ℕ) (paths : List (List ℕ)) (bytes written : List ℕ) (m new : DynamicMessage) → AreBytes bytes → schema_of (content_of m) ≡ schema → type_of (content_of m) ≡ T → Accepts schema LEVEL_LIMIT T bytes → decoded schema LEVEL_LIMIT T bytes ≡ Some (kept (content_of m)) → WellStored (content_of m)
    → IsClearedAll paths (content_of m) (content_of new) → written ≡ encoded (kept (content_of new)) → (WellStored (content_of new) → ReadsBack (kept (content_of new)) written) → IsRedacted schema T paths bytes written
is_redacted schema T paths bytes written m new small same there accepts means w s is back =
    let holds = s.holds in
    let cleared : kept (content_of new) ≡ cleared_all paths (kept (content_of m)) = ap kept s.cleared ∙ kept_all paths (content_of m) (valid_in m) w in
    let schema_is : schema_of (kept (content_of new)) ≡ schema = kept_schema (content_of new) ∙ holds.schema ∙ same in
    let type_is : type_of (kept (content_of new)) ≡ T = kept_type (content_of new) ∙ holds.type ∙ there in
    let low : levels (kept (content_of new)) ≤ LEVEL_LIMIT = subst (λ c. levels c ≤ LEVEL_LIMIT) (sym cleared) (within schema T paths bytes m small same means w) in
    let read = back holds.sound LEVEL_LIMIT in
    record {
      content = kept (content_of m);
      accepts = accepts;
      means = means;
      encoding = is ∙ ap encoded cleared;
      accepts_written = subst (λ n. Accepts schema LEVEL_LIMIT n written) type_is (subst (λ x. Accepts x LEVEL_LIMIT (type_of (kept (content_of new))) written) schema_is (read.0.1 low));
      written_means = (λ i. decoded (sym schema_is i) LEVEL_LIMIT (sym type_is i) written) ∙ read.1 low ∙ ap Some cleared;
    }

pub is_too_long : (schema : Schema) (T : ℕ) (paths : List (List ℕ)) (bytes : List ℕ) (m new : DynamicMessage) → Accepts schema LEVEL_LIMIT T bytes → decoded schema LEVEL_LIMIT T bytes ≡ Some (kept (content_of m)) → WellStored (content_of m)
    → IsClearedAll paths (content_of m) (content_of new) → 2 ^ 64 ≤ length (encoded (kept (content_of new))) → IsTooLong schema T paths bytes
is_too_long schema T paths bytes m new accepts means w s long =
    let cleared : kept (content_of new) ≡ cleared_all paths (kept (content_of m)) = ap kept s.cleared ∙ kept_all paths (content_of m) (valid_in m) w in
    record { content = kept (content_of m); accepts = accepts; means = means; long = subst (λ c. 2 ^ 64 ≤ length (encoded c)) cleared long }
