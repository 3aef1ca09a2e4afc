-- The premises of the laws at worked examples, and what the laws then say.
use Rattle.std.specs.Prelude.{◌∷◌}
use Rattle.prost_reflect_laws.proofs.Common.{false, [], Some, None, refl, sym, ap, arith, lit<, lit≤, is_utf8, chars, encode_utf8, AreBytes, short, read, known, is_sibling, LEVEL_LIMIT, unpacked, allows, meaning, steps, WellTyped, WellStored, PathTo, NoEntries, Stored, read_spells, Apart, Writable, examples, my_message, two_choices, hex, content, int, sample, front, behind, one, needless, stores_defaults, Taken, Low, OfReading, OfMeaning, OfContents, OfWriting, OfFaults}
use Rattle.prost_reflect_laws.proofs.Accepted.{accepts_is_test}
use Rattle.prost_reflect_laws.proofs.GoodSteps.{meaning_typed, meaning_levels}
use Rattle.prost_reflect_laws.proofs.NormalForms.{steps_well, merged_well, normal_form, decoded_well}
use Rattle.prost_reflect_laws.proofs.StepsFree.{steps_within, pieces, merges_join, written_pieces}
use Rattle.prost_reflect_laws.proofs.Pieces.{pieces_join, merged_means}
use Rattle.prost_reflect_laws.proofs.Kept.{kept_well}
use Rattle.prost_reflect_laws.proofs.Setting.{set_well}
use Rattle.prost_reflect_laws.proofs.RoundTrip.{round_trip, records_allowed}
use Rattle.prost_reflect_laws.proofs.Means.{records_mean, encoded_spells}
use Rattle.prost_reflect_laws.proofs.Examples.Faults.{faults}

needless_bytes : AreBytes needless
needless_bytes = (lit< tt, (lit< tt, (lit< tt, tt)))

pub sample_typed : WellTyped sample
unfolding short read unpacked allows meaning steps is_utf8 chars encode_utf8
sample_typed = record { fitting = record { fits = refl; types = (tt, (tt, (((refl, refl), (tt, tt)), tt))); order = refl; nonempty = refl }; members = refl; without_stored_defaults = refl }

pub sample_low : Low 1 sample
sample_low = record { typed = sample_typed; low = lit≤ tt }

sample_writable : Writable sample
unfolding short read unpacked allows meaning steps is_utf8 chars encode_utf8
sample_writable = record { checked = refl; typed = sample_typed; length = lit< tt }

front_taken : Taken 1 front
unfolding short read unpacked allows meaning steps is_utf8 chars encode_utf8
front_taken = record { checked = refl; valid = refl; allowed = refl }

pub behind_taken : Taken 1 behind
unfolding short read unpacked allows meaning steps is_utf8 chars encode_utf8
behind_taken = record { checked = refl; valid = refl; allowed = refl }

behind_limit : Taken LEVEL_LIMIT behind
unfolding short read unpacked allows meaning steps is_utf8 chars encode_utf8
behind_limit = record { checked = refl; valid = refl; allowed = refl }

front_limit : Taken LEVEL_LIMIT front
unfolding short read unpacked allows meaning steps is_utf8 chars encode_utf8
front_limit = record { checked = refl; valid = refl; allowed = refl }

apart : Apart (known examples two_choices) 1 3
apart = record {
  differ = λ e. omega (arith, e);
  left = λ f e. sym (ap (λ o. elim o [ None ↦ false | Some g ↦ is_sibling (known examples two_choices) g 3 ]) e);
  right = λ f e. sym (ap (λ o. elim o [ None ↦ false | Some g ↦ is_sibling (known examples two_choices) g 1 ]) e);
}

pub stored_well : WellStored stores_defaults
unfolding short read unpacked allows meaning steps is_utf8 chars encode_utf8
stored_well = record { fits = refl; types = (tt, (((refl, refl), (tt, tt)), tt)); order = refl; members = refl }

pub of_reading : OfReading
unfolding short read unpacked allows meaning steps is_utf8 chars encode_utf8
of_reading = record {
  read_is_spells = (needless_bytes, refl);
  one_reading = read_spells needless one needless_bytes refl;
  written_spells = (refl, read_spells (hex "0801") one (lit< tt, (lit< tt, tt)) refl);
  accepts_is_test = (bytes, refl);
  accepted = (accepts_is_test examples 1 my_message (hex "1a0408051042") bytes).1 refl;
  read_valid = (refl, refl, refl);
}
  where
    bytes : AreBytes (hex "1a0408051042")
    bytes = (lit< tt, (lit< tt, (lit< tt, (lit< tt, (lit< tt, (lit< tt, tt))))))

pub of_meaning : OfMeaning
unfolding short read unpacked allows meaning steps is_utf8 chars encode_utf8
of_meaning = record {
  commute = apart;
  same_behind = refl;
  taken = front_taken;
  levels_free = (lit≤ tt, refl);
  allowed_further = refl;
  meaning_typed = record { typed = meaning_typed examples 1 my_message front refl refl refl; low = meaning_levels examples 1 my_message front refl refl refl };
  steps_well = (sample_low, behind_taken);
  stepped = steps_well 1 sample behind refl sample_typed (lit≤ tt) refl refl;
  merged_well = (sample_low, behind_limit);
  merged_stays = merged_well sample behind refl sample_typed refl refl;
  steps_free = steps_within 1 2 sample behind refl sample_typed refl refl (lit≤ tt);
  pieces = (front_taken, behind_limit, lit≤ tt, lit≤ tt);
  pieces_merged = pieces examples 1 LEVEL_LIMIT my_message front behind refl refl refl refl refl (lit≤ tt) (lit≤ tt);
  pieces_join = pieces_join examples 1 LEVEL_LIMIT my_message front behind refl (lit≤ tt);
  written_pieces = (front_taken, lit< tt, lit≤ tt);
  pieces_written = written_pieces examples 1 LEVEL_LIMIT my_message front behind refl refl refl (lit< tt) (lit≤ tt);
  merges_join = (sample_low, behind_limit, front_limit);
  merges_joined = merges_join sample behind front refl sample_typed refl refl refl refl;
}

pub of_contents : OfContents
unfolding short read unpacked allows meaning steps is_utf8 chars encode_utf8
of_contents = record {
  kept_well = stored_well;
  kept_typed = kept_well stores_defaults stored_well;
  kept_content = sample_typed;
  set_well = (refl, sample_typed, to_seven);
  set_typed = set_well (3 ∷ 2 ∷ []) _ sample refl sample_typed to_seven;
}
  where
    to_seven : PathTo examples my_message (3 ∷ 2 ∷ []) (int 7)
    to_seven = (_, refl, refl, (my_message, refl, (_, refl, record { valid = refl; fits = refl; types = tt; order = refl; members = refl })))

pub of_writing : OfWriting
unfolding short read unpacked allows meaning steps is_utf8 chars encode_utf8
of_writing = record {
  written_is_read = refl;
  round_trip = (sample_writable, lit≤ tt);
  round_accepted = (round_trip 1 sample sample_writable).0.1 (lit≤ tt);
  round_refused = λ a. absurd (omega (arith, (round_trip 0 sample sample_writable).0.0 a));
  round_decoded = (round_trip 1 sample sample_writable).1 (lit≤ tt);
  records_mean = records_mean 1 sample sample_writable (lit≤ tt);
  records_allowed = (records_allowed 1 sample sample_writable).1 (lit≤ tt);
  encoded_spells = encoded_spells sample sample_writable;
  merged_means = merged_means sample behind sample_writable;
  normal_form = (needless_bytes, refl, refl);
  decoded_well = let w = decoded_well examples 0 my_message needless (content my_message (Stored 1 (int 1) NoEntries)) needless_bytes refl refl in record { typed = w.0; low = w.1 };
  normal_length = lit< tt;
  normal_again = normal_form examples 0 my_message needless _ needless_bytes refl refl (lit< tt);
  canonicity = record { checked = refl; fitting = record { fits = refl; types = (tt, (((refl, refl), tt), tt)); order = refl; nonempty = refl }; length = lit< tt };
  canonicity_defaults = record { checked = refl; fitting = record { fits = refl; types = (tt, (((refl, refl), (tt, tt)), tt)); order = refl; nonempty = refl }; length = lit< tt };
}

pub of_faults : OfFaults
unfolding short read unpacked allows meaning steps is_utf8 chars encode_utf8
of_faults = record {
  accepted = (whole, (accepts_is_test examples 0 my_message (hex "0801") whole).1 refl);
  accepted_only_memory = λ other. absurd (other refl);
  accepted_unless_fault = ((lit< tt, (lit< tt, tt)), refl);
  fault = faults.varint_ends;
}
  where
    whole : AreBytes (hex "0801")
    whole = (lit< tt, (lit< tt, tt))
