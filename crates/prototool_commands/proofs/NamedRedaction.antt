-- Paths of names, all of them, and what is redacted along them.
use Rattle.std.proofs.Common.{◌≡◌, ◌+◌, ◌<◌, ℕ, List, [], ◌∷◌, ◌++◌, length, map, take, get_or, Some, None, Contains, refl, ap, sym, ◌∙◌, subst}
use Rattle.std.proofs.lemmas.List.{get_or-map, length-map, map-append, take_more}
use Rattle.std.proofs.lemmas.Option.{none-some}
use Rattle.prost_reflect_tables.specs.Shown.{schema_from}
use Rattle.prost_reflect_pool.specs.Pools.{pool_rows}
use Rattle.prost_reflect_pool.specs.declared.pool.LinkedPool.{LinkedPool}
use Rattle.prost_reflect_dynamic.specs.Named.{SameMessage, schema_named, type_named}
use Rattle.prost_reflect_dynamic.specs.declared.descriptor.message.MessageDescriptor.{MessageDescriptor}
use Rattle.prototool_commands.specs.Naming.{IsPathTo, AreNumbersOf, ArePathsTo, LeadsNowhere, RefusesPaths}
use Rattle.prototool_commands.specs.Redacting.{IsRedacted}
use Rattle.prototool_commands.specs.Refusals.{RefusesPath}
use Rattle.prototool_commands.specs.declared.refusal.Refusal.{Refusal}
use Rattle.prototool_commands.specs.declared.refusal.Refusal.TheVariants.{Path, Memory}

-- EACH PATH

module _ (pool : LinkedPool) (T : ℕ) where
  one_led : (path numbers : List ℕ) → AreNumbersOf pool T path (Some numbers) → IsPathTo pool T path numbers
  one_led path numbers h = (h numbers).0 refl

  led_more : (paths all : List (List ℕ)) (path numbers : List ℕ) → ArePathsTo pool T paths all → IsPathTo pool T path numbers → ArePathsTo pool T (paths ++ path ∷ []) (all ++ numbers ∷ [])
  led_more [] [] path numbers h one = (one, tt)
  led_more [] (other ∷ all) path numbers h one = absurd h
  led_more (other ∷ paths) [] path numbers h one = absurd h
  led_more (other ∷ paths) (its ∷ all) path numbers h one = (h.0, led_more paths all path numbers h.1 one)

  module _ {V : Type 0} (items : V → List ℕ) (xs : List V) (i : ℕ) (d : V) (less : i < length xs) (path : List ℕ) (at : path ≡ items (get_or xs i d)) where
    pub led_next : (all : List (List ℕ)) (numbers : List ℕ) → ArePathsTo pool T (map items (take i xs)) all → AreNumbersOf pool T path (Some numbers) → ArePathsTo pool T (map items (take (i + 1) xs)) (all ++ numbers ∷ [])
    led_next all numbers so_far found =
        let next : map items (take (i + 1) xs) ≡ map items (take i xs) ++ path ∷ [] = ap (map items) (take_more xs i d less) ∙ map-append items (take i xs) (get_or xs i d ∷ []) ∙ ap (λ p. map items (take i xs) ++ p ∷ []) (sym at) in
        subst (λ paths. ArePathsTo pool T paths (all ++ numbers ∷ [])) (sym next) (led_more (map items (take i xs)) all path numbers so_far (one_led path numbers found))

    among : Contains (map items xs) path
    among = (i, subst (λ n. i < n) (sym (length-map xs items)) less, get_or-map items xs i d path less ∙ sym at)

    pub led_nowhere : (refusal : Refusal) → AreNumbersOf pool T path None → RefusesPath path refusal → RefusesPaths pool T (map items xs) refusal
    led_nowhere Memory none h = tt
    led_nowhere (Path text) none h = subst (LeadsNowhere pool T (map items xs)) (sym h) (record { among = among; nowhere = λ numbers p. none-some numbers ((none numbers).1 p) })
    led_nowhere refusal none h = absurd h

-- WHAT IS WRITTEN

pub redacted_same : (a b : MessageDescriptor) (paths : List (List ℕ)) (bytes written : List ℕ) → SameMessage a b → IsRedacted (schema_named b) (type_named b) paths bytes written → IsRedacted (schema_named a) (type_named a) paths bytes written
redacted_same a b paths bytes written same h = subst (λ p. IsRedacted (schema_from (pool_rows p)) a.index paths bytes written) same.0 (subst (λ T. IsRedacted (schema_named b) T paths bytes written) same.1 h)
