-- A fault stands within the bytes, and its path is short.
use Rattle.std.specs.Prelude.{◌≡◌, ◌≤◌, ◌+◌, ◌*◌}
use Rattle.std.proofs.Common.{ℕ, Bool, true, false, List, length, cond, nat_eq, Option, Some, None, refl, ap, ◌∙◌, arith, length-append}
use Rattle.prost_reflect_wire.specs.Record.{Record}
use Rattle.prost_reflect_wire.specs.Schema.{Schema, ValueType, FieldForm, Singular, MapFrom, Field}
use Rattle.prost_reflect_wire.specs.Front.{DelimitedFront, RecordFront}
use Rattle.prost_reflect_wire.specs.Fault.{Place, Inside, OfType, OfEntry, OfNothing, field_at, entry_field, Stands, Here, Behind, InMessage, InGroup, InUnknown, InEntry}
use Rattle.prost_reflect_wire.specs.declared.error.DecodeError.{DecodeError}
use Rattle.prost_reflect_wire.proofs.RecordFronts.{key_shorter}
use Rattle.prost_reflect_faults.specs.Positions.{path_of, offset_of, StandsAt}
use Rattle.prost_reflect_faults.specs.Searching.{rank}

pub map_in_type : (schema : Schema) (inside : Inside) (n : ℕ) (f : Field) (key : ValueType) → field_at schema inside n ≡ Some f → f.form ≡ MapFrom key → rank inside ≡ 1
map_in_type schema (OfType T) n f key found form = refl
map_in_type schema OfNothing n f key found form = cc
map_in_type schema (OfEntry first second) n f key found form = go (nat_eq n 1) (nat_eq n 2) found
  where
    go : (a b : Bool) → cond a (Some (entry_field 1 first)) (cond b (Some (entry_field 2 second)) None) ≡ Some f → ◌≡◌ {A = ℕ} 0 1
    go true b e = let single : ◌≡◌ {A = FieldForm} Singular (MapFrom key) = ap (λ (o : Option Field). elim o [ None ↦ Singular | Some g ↦ g.form ]) e ∙ form in cc
    go false true e = let single : ◌≡◌ {A = FieldForm} Singular (MapFrom key) = ap (λ (o : Option Field). elim o [ None ↦ Singular | Some g ↦ g.form ]) e ∙ form in cc
    go false false e = cc

record_no_longer : (r : Record) (bytes rest : List ℕ) → RecordFront r bytes rest → length rest ≤ length bytes
record_no_longer r bytes rest f = omega (arith, ap length f.parts, length-append f.front rest)

parts_within : (body bytes rest : List ℕ) → DelimitedFront body bytes rest → length body + length rest ≤ length bytes
parts_within body bytes rest d = let (len, _, whole) = d.spelled in omega (arith, ap length d.parts, length-append d.front rest, ap length whole, length-append len body)

path_short : (schema : Schema) {e : DecodeError} {place : Place} (s : Stands schema e place) → length (path_of s) ≤ 2 * place.levels + rank place.inside
path_short schema (Here {place} c) = omega arith
path_short schema (Behind {place} r rest front more) = path_short schema more
path_short schema (InMessage {place} n T k f body rest after found single kind left key front more) = let l = path_short schema more in omega (arith, left, l)
path_short schema (InGroup {place} n T k f rest found single kind left key more) = let l = path_short schema more in omega (arith, left, l)
path_short schema (InUnknown {place} n k rest found left key more) = let l = path_short schema more in omega (arith, left, l)
path_short schema (InEntry {place} n f key_type body rest after found form level key front more) =
    let l = path_short schema more in let outer = map_in_type schema place.inside n f key_type found form in omega (arith, outer, l)

offset_within : (schema : Schema) {e : DecodeError} {place : Place} (s : Stands schema e place) → offset_of s ≤ length place.bytes
offset_within schema (Here {place} c) = omega arith
offset_within schema (Behind {place} r rest front more) = let l = offset_within schema more in let shorter = record_no_longer r place.bytes rest front in omega (arith, l, shorter)
offset_within schema (InMessage {place} n T k f body rest after found single kind left key front more) =
    let l = offset_within schema more in let shorter = key_shorter n _ place.bytes rest key in let parts = parts_within body rest after front in omega (arith, l, shorter, parts)
offset_within schema (InGroup {place} n T k f rest found single kind left key more) = let l = offset_within schema more in let shorter = key_shorter n _ place.bytes rest key in omega (arith, l, shorter)
offset_within schema (InUnknown {place} n k rest found left key more) = let l = offset_within schema more in let shorter = key_shorter n _ place.bytes rest key in omega (arith, l, shorter)
offset_within schema (InEntry {place} n f key_type body rest after found form level key front more) =
    let l = offset_within schema more in let shorter = key_shorter n _ place.bytes rest key in let parts = parts_within body rest after front in omega (arith, l, shorter, parts)

pub stands_short : (schema : Schema) (place : Place) (e : DecodeError) (offset : ℕ) (path : List ℕ) → StandsAt schema place e offset path → length path ≤ 2 * place.levels + rank place.inside
stands_short schema place e offset path s = let l = path_short schema s.stands in rw s.path_is at l

pub stands_within : (schema : Schema) (place : Place) (e : DecodeError) (offset : ℕ) (path : List ℕ) → StandsAt schema place e offset path → offset ≤ length place.bytes
stands_within schema place e offset path s = let l = offset_within schema s.stands in rw s.offset_is at l
