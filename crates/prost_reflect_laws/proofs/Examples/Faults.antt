-- The worked examples of faults.
use Rattle.std.specs.Prelude.{◌≡◌, ◌≢◌, ◌+◌, ◌*◌, ◌<◌, ◌^◌, ◌∷◌}
use Rattle.prost_reflect_laws.proofs.Common.{sym, ℕ, true, false, List, [], Option, Some, None, refl, inl, inr, arith, lit<, lit≤, ap, is_utf8, chars, encode_utf8, none-some, Varint, Var, Flat, wire_code, Int32, MessageOf, GroupOf, Singular, Repeated, MapFrom, LEVEL_LIMIT, Stands, StandsInMessage, OfEntry, entry_field, Here, Behind, InMessage, InGroup, InUnknown, InEntry, KeyFront, DelimitedFront, RecordFront, ElementEnds, BehindElement, DecodeError, WireType, examples, maps, field, list, int32, text, message_value_type}
use Rattle.prost_reflect_laws.specs.Examples.Faults.{Faults}
use Rattle.prost_reflect_wire.specs.declared.error.DecodeError.TheVariants as errors
use Rattle.prost_reflect_wire.specs.declared.key.WireType.TheVariants as wires

pub one_byte : (v : ℕ) → v < 128 → Varint v (v ∷ [])
one_byte v h = record { below = omega (arith, h); digits = h; few = omega arith; means = omega (arith, h) }

pub key : (n : ℕ) (w : WireType) (rest : List ℕ) → 0 < n → 8 * n + wire_code w < 128 → KeyFront n w ((8 * n + wire_code w) ∷ rest) rest
key n w rest from h = record { front = (8 * n + wire_code w) ∷ []; key = record { from_one = from; below = omega (arith, h); varint = one_byte (8 * n + wire_code w) h }; parts = refl }

one_two : ◌≡◌ {A = Option ℕ} (Some 1) (Some 2) → ⊥
one_two e = let k : ◌≡◌ {A = ℕ} 1 2 = ap (λ (o : Option ℕ). elim o [ None ↦ 1 | Some x ↦ x ]) e in omega (arith, k)

pub no_zero : (n : ℕ) (w : WireType) → 0 < n → n < 2 ^ 29 → 0 ≢ 8 * n + wire_code w
no_zero n w a b e = omega (arith, a, e)

no_six : (n : ℕ) (w : WireType) → 0 < n → n < 2 ^ 29 → 14 ≢ 8 * n + wire_code w
no_six n wires.Varint a b e = omega (arith, e)
no_six n wires.SixtyFourBit a b e = omega (arith, e)
no_six n wires.LengthDelimited a b e = omega (arith, e)
no_six n wires.StartGroup a b e = omega (arith, e)
no_six n wires.EndGroup a b e = omega (arith, e)
no_six n wires.ThirtyTwoBit a b e = omega (arith, e)

-- the record of number 1 with the varint 1
pub first_one : (rest : List ℕ) → RecordFront (record { number = 1; payload = Flat (Var 1) }) (0x08 ∷ 0x01 ∷ rest) rest
first_one rest = record {
  front = 0x08 ∷ 0x01 ∷ [];
  spelled = (0x08 ∷ [], 0x01 ∷ [], [], record { from_one = lit< tt; below = lit< tt; varint = one_byte 8 (lit< tt) }, one_byte 1 (lit< tt), refl, refl);
  parts = refl;
}

delimited : (n b c : ℕ) → DelimitedFront (b ∷ c ∷ []) (0x02 ∷ b ∷ c ∷ []) []
delimited n b c = record { front = 0x02 ∷ b ∷ c ∷ []; spelled = (0x02 ∷ [], one_byte 2 (lit< tt), refl); parts = refl }

delimited_one : (b : ℕ) → DelimitedFront (b ∷ []) (0x01 ∷ b ∷ []) []
delimited_one b = record { front = 0x01 ∷ b ∷ []; spelled = (0x01 ∷ [], one_byte 1 (lit< tt), refl); parts = refl }

-- in an entry of the map of numbers
in_entry : (e : DecodeError) (body rest : List ℕ) → DelimitedFront body rest [] → Stands examples e (record { bytes = body; inside = OfEntry (text false) (int32 false); levels = LEVEL_LIMIT; open_group = None }) → StandsInMessage examples maps LEVEL_LIMIT e (0x0a ∷ rest)
in_entry e body rest front stands = InEntry 1 (field 1 (MapFrom (text false)) (int32 false)) (text false) body rest [] refl refl refl (key 1 wires.LengthDelimited rest (lit< tt) (lit< tt)) front stands

pub faults : Faults
unfolding is_utf8 chars encode_utf8
faults = record {
  varint_ends = Here (inr (inr (inl (record { number = 1; wire = wires.Varint; rest = 0x96 ∷ []; key = key 1 wires.Varint (0x96 ∷ []) (lit< tt) (lit< tt); behind = record { few = lit< tt; unended = (lit≤ tt, tt) } }))));
  element_ends = Here (inr (inr (inr (record {
    number = 1;
    wire = wires.LengthDelimited;
    field = field 1 (Repeated true) (int32 false);
    rest = 0x01 ∷ 0x80 ∷ [];
    key = key 1 wires.LengthDelimited (0x01 ∷ 0x80 ∷ []) (lit< tt) (lit< tt);
    found = refl;
    behind = (refl, (true, refl), (Int32, refl, refl, (0x80 ∷ [], [], delimited_one 0x80, ElementEnds (record { few = lit< tt; unended = (lit≤ tt, tt) }))));
  }))));
  second_element_ends = Here (inr (inr (inr (record {
    number = 1;
    wire = wires.LengthDelimited;
    field = field 1 (Repeated true) (int32 false);
    rest = 0x02 ∷ 0x01 ∷ 0x80 ∷ [];
    key = key 1 wires.LengthDelimited (0x02 ∷ 0x01 ∷ 0x80 ∷ []) (lit< tt) (lit< tt);
    found = refl;
    behind = (
      refl,
      (true, refl),
      (
        Int32,
        refl,
        refl,
        (
          0x01 ∷ 0x80 ∷ [],
          [],
          delimited 2 0x01 0x80,
          BehindElement (Var 1) (0x80 ∷ []) (record { front = 0x01 ∷ []; spelled = one_byte 1 (lit< tt); parts = refl }) refl (ElementEnds (record { few = lit< tt; unended = (lit≤ tt, tt) })),
        ),
      ),
    );
  }))));
  varint_passes = Here (inr (inl (record {
    number = 1;
    wire = wires.Varint;
    rest = 0xff ∷ 0xff ∷ 0xff ∷ 0xff ∷ 0xff ∷ 0xff ∷ 0xff ∷ 0xff ∷ 0xff ∷ 0x02 ∷ [];
    key = key 1 wires.Varint (0xff ∷ 0xff ∷ 0xff ∷ 0xff ∷ 0xff ∷ 0xff ∷ 0xff ∷ 0xff ∷ 0xff ∷ 0x02 ∷ []) (lit< tt) (lit< tt);
    behind = record { nine = 0xff ∷ 0xff ∷ 0xff ∷ 0xff ∷ 0xff ∷ 0xff ∷ 0xff ∷ 0xff ∷ 0xff ∷ []; tenth = 2; rest = []; parts = refl; count = refl; unended = (lit≤ tt, (lit≤ tt, (lit≤ tt, (lit≤ tt, (lit≤ tt, (lit≤ tt, (lit≤ tt, (lit≤ tt, (lit≤ tt, tt))))))))); above = lit< tt };
  })));
  number_zero = Here (record { value = 0; rest = []; front = record { front = 0x00 ∷ []; varint = one_byte 0 (lit< tt); parts = refl }; none = no_zero });
  wire_type_six = Here (record { value = 14; rest = []; front = record { front = 0x0e ∷ []; varint = one_byte 14 (lit< tt); parts = refl }; none = no_six });
  message_as_varint = Here (record { number = 3; wire = wires.Varint; field = field 3 Singular (message_value_type (MessageOf 0)); rest = 0x00 ∷ []; key = key 3 wires.Varint (0x00 ∷ []) (lit< tt) (lit< tt); found = refl; behind = (no_end, refl) });
  behind_a_record = Behind (record { number = 1; payload = Flat (Var 1) }) (0x18 ∷ 0x00 ∷ []) (first_one (0x18 ∷ 0x00 ∷ []))
      (Here (record { number = 3; wire = wires.Varint; field = field 3 Singular (message_value_type (MessageOf 0)); rest = 0x00 ∷ []; key = key 3 wires.Varint (0x00 ∷ []) (lit< tt) (lit< tt); found = refl; behind = (no_end, refl) }));
  entry_key = in_entry errors.WireType (0x08 ∷ 0x01 ∷ []) (0x02 ∷ 0x08 ∷ 0x01 ∷ []) (delimited 2 0x08 0x01)
      (Here (record { number = 1; wire = wires.Varint; field = entry_field 1 (text false); rest = 0x01 ∷ []; key = key 1 wires.Varint (0x01 ∷ []) (lit< tt) (lit< tt); found = refl; behind = (no_end, refl) }));
  end_alone = Here (record { number = 1; wire = wires.EndGroup; rest = []; key = key 1 wires.EndGroup [] (lit< tt) (lit< tt); behind = (refl, none-some _) });
  other_end = InGroup 1 11 99 (list 1 false (message_value_type (GroupOf 11))) (0x08 ∷ 0x01 ∷ 0x14 ∷ []) refl refl refl refl (key 1 wires.StartGroup (0x08 ∷ 0x01 ∷ 0x14 ∷ []) (lit< tt) (lit< tt))
      (Behind (record { number = 1; payload = Flat (Var 1) }) (0x14 ∷ []) (first_one (0x14 ∷ []))
      (Here (record { number = 2; wire = wires.EndGroup; rest = []; key = key 2 wires.EndGroup [] (lit< tt) (lit< tt); behind = (refl, one_two) })));
  group_unended = InUnknown 5 99 [] refl refl (key 5 wires.StartGroup [] (lit< tt) (lit< tt)) (Here (inr (inl (refl, λ e. none-some _ (sym e)))));
  bad_text = Here (record {
    number = 1;
    wire = wires.LengthDelimited;
    field = field 1 Singular (text false);
    rest = 0x01 ∷ 0xff ∷ [];
    key = key 1 wires.LengthDelimited (0x01 ∷ 0xff ∷ []) (lit< tt) (lit< tt);
    found = refl;
    behind = (refl, refl, refl, (0xff ∷ [], [], delimited_one 0xff, refl));
  });
  bad_key = in_entry errors.Utf8 (0x0a ∷ 0x01 ∷ 0xff ∷ []) (0x03 ∷ 0x0a ∷ 0x01 ∷ 0xff ∷ []) (record { front = 0x03 ∷ 0x0a ∷ 0x01 ∷ 0xff ∷ []; spelled = (0x03 ∷ [], one_byte 3 (lit< tt), refl); parts = refl })
      (Here (record {
        number = 1;
        wire = wires.LengthDelimited;
        field = entry_field 1 (text false);
        rest = 0x01 ∷ 0xff ∷ [];
        key = key 1 wires.LengthDelimited (0x01 ∷ 0xff ∷ []) (lit< tt) (lit< tt);
        found = refl;
        behind = (refl, refl, refl, (0xff ∷ [], [], delimited_one 0xff, refl));
      }));
  past_last_level = Here (refl, record { number = 5; wire = wires.StartGroup; rest = 0x2c ∷ []; key = key 5 wires.StartGroup (0x2c ∷ []) (lit< tt) (lit< tt); behind = refl });
  past_last_level_inside = InMessage 3 0 0 (field 3 Singular (message_value_type (MessageOf 0))) (0x2b ∷ 0x2c ∷ []) (0x02 ∷ 0x2b ∷ 0x2c ∷ []) [] refl refl refl refl
      (key 3 wires.LengthDelimited (0x02 ∷ 0x2b ∷ 0x2c ∷ []) (lit< tt) (lit< tt)) (delimited 2 0x2b 0x2c)
      (Here (refl, record { number = 5; wire = wires.StartGroup; rest = 0x2c ∷ []; key = key 5 wires.StartGroup (0x2c ∷ []) (lit< tt) (lit< tt); behind = refl }));
  message_map_past = Here (refl, record { number = 2; wire = wires.LengthDelimited; rest = 0x00 ∷ []; key = key 2 wires.LengthDelimited (0x00 ∷ []) (lit< tt) (lit< tt); behind = refl });
  field_without_a_byte = inr (inl (refl, refl));
}
  where
    no_end : wires.Varint ≡ wires.EndGroup → ⊥
    no_end e = let k : ◌≡◌ {A = ℕ} 0 4 = ap wire_code e in omega (arith, k)
