-- What the operations of a message make of its content (the encoding guide, "Oneofs" and "Last One Wins", for what a set replaces).
use Rattle.std.specs.Prelude.{◌≡◌, ◌∷◌}
use Rattle.prost_reflect_laws.specs.Common.{true, false, [], MessageOf, Singular, known, passes, NoEntries, Stored, Unknown, LEVEL_LIMIT, accepts, record_at, merged, clear_field, cleared, value_or_default, opened, set_at, edited}
use Rattle.prost_reflect_laws.specs.Examples.Schemas.{examples, field, list, member, int32, message_value_type, my_message, older_message, unpacked_list, choice, two_choices, closed}
use Rattle.prost_reflect_laws.specs.Examples.Words.{times, content, int, enum, inner, list_of, varint, delimited, Means, Sets}

pub record Merging : Type 0 where
  -- A later piece's default clears what was there.
  pub default_clears : merged (content my_message (Stored 1 (int 5) NoEntries)) (record_at 1 (varint 0) ∷ []) ≡ content my_message NoEntries
  -- A list grows.
  pub list_grows : merged (content unpacked_list (Stored 1 (list_of (int 1 ∷ [])) NoEntries))
      (record_at 1 (varint 2) ∷ [])
      ≡ content unpacked_list (Stored 1 (list_of (int 1 ∷ int 2 ∷ [])) NoEntries)
  -- A message merges.
  pub message_merges : merged (content my_message (Stored 3 (inner my_message (Stored 1 (int 5) NoEntries)) NoEntries)) (record_at 3 (delimited "1042") ∷ []) ≡ content my_message (Stored 3 (inner my_message (Stored 1 (int 5) (Stored 2 (int 66) NoEntries))) NoEntries)
  -- A member of a oneof clears the others.
  pub member_cleared : merged (content choice (Stored 1 (int 5) NoEntries)) (record_at 2 (delimited "") ∷ []) ≡ content choice (Stored 2 (inner my_message NoEntries) NoEntries)
  -- Unknown records join behind those that are there.
  pub unknown_joins : merged (content my_message (Unknown 5 (varint 1) NoEntries)) (record_at 5 (varint 2) ∷ [])
      ≡ content my_message (Unknown 5 (varint 1) (Unknown 5 (varint 2) NoEntries))

pub record OneNumber : Type 0 where
  -- A set stands at its number.
  pub set : set_at (1 ∷ []) (int 5) (content my_message (Stored 2 (int 1) NoEntries))
      ≡ content my_message (Stored 1 (int 5) (Stored 2 (int 1) NoEntries))
  -- A default without presence is absent.
  pub set_default : set_at (1 ∷ []) (int 0) (content my_message (Stored 1 (int 5) NoEntries)) ≡ content my_message NoEntries
  -- One with presence is there.
  pub set_member_default : set_at (2 ∷ []) (int 0) (content my_message NoEntries) ≡ content my_message (Stored 2 (int 0) NoEntries)
  -- An empty list is absent.
  pub set_empty : set_at (1 ∷ []) (list_of []) (content unpacked_list (Stored 1 (list_of (int 1 ∷ [])) NoEntries))
      ≡ content unpacked_list NoEntries
  -- A message's own content is set: a default that it stores is lost.
  pub set_message : set_at (3 ∷ []) (inner my_message (Stored 1 (int 0) NoEntries)) (content my_message NoEntries)
      ≡ content my_message (Stored 3 (inner my_message NoEntries) NoEntries)
  -- The siblings go, and members of another oneof stay.
  pub set_clears : set_at (2 ∷ []) (int 7) (content two_choices (Stored 1 (int 1) (Stored 3 (int 3) NoEntries)))
      ≡ content two_choices (Stored 2 (int 7) (Stored 3 (int 3) NoEntries))
  -- A stray of the number stays at a set.
  pub set_keeps_stray : set_at (1 ∷ []) (enum 1) (content closed (Unknown 1 (varint 7) NoEntries))
      ≡ content closed (Stored 1 (enum 1) (Unknown 1 (varint 7) NoEntries))
  -- And at a clear.
  pub clear_keeps_stray : clear_field 1 (Stored 1 (enum 1) (Unknown 1 (varint 7) NoEntries)) ≡ Unknown 1 (varint 7) NoEntries
  -- A clear changes its number alone.
  pub clear : clear_field 1 (Stored 1 (int 5) (Stored 2 (int 1) NoEntries)) ≡ Stored 2 (int 1) NoEntries
  -- Where nothing is, nothing changes.
  pub clear_absent : clear_field 9 (Stored 1 (int 5) NoEntries) ≡ Stored 1 (int 5) NoEntries
  -- A clear of the whole message leaves nothing, unknown records neither.
  pub clear_whole : cleared (content my_message (Stored 1 (int 5) (Unknown 5 (varint 1) NoEntries))) ≡ content my_message NoEntries

pub record Access : Type 0 where
  -- What is got is the stored value.
  pub stored : value_or_default examples (field 1 Singular (int32 false)) (Stored 1 (int 5) NoEntries) ≡ int 5
  -- Else the field's default,
  pub default : value_or_default examples (field 1 Singular (int32 false)) NoEntries ≡ int 0
  -- an empty message,
  pub message_default : value_or_default examples (field 3 Singular (message_value_type (MessageOf my_message)))
      NoEntries
      ≡ inner my_message NoEntries
  -- or an empty list.
  pub list_default : value_or_default examples (list 1 false (int32 false)) NoEntries ≡ list_of []
  -- Writing access makes an absent value with presence present.
  pub opened_with_presence : opened examples (known examples my_message) (member 2 (int32 true)) NoEntries ≡ Stored 2 (int 0) NoEntries
  -- One without presence stays absent.
  pub opened_without : opened examples (known examples my_message) (field 1 Singular (int32 false)) NoEntries ≡ NoEntries
  -- It clears the siblings.
  pub opened_clears : opened examples (known examples two_choices) (member 2 (int32 true)) (Stored 1 (int 1) NoEntries)
      ≡ Stored 2 (int 0) NoEntries

pub record Paths : Type 0 where
  -- A number of an older type is set, and what it does not know stays.
  pub older : Sets older_message "08051042" (2 ∷ []) (int 7) "08051007"
  -- What the newer type then reads.
  pub older_means : Means my_message "08051007" (Stored 1 (int 5) (Stored 2 (int 7) NoEntries))
  -- A set of a member clears the others.
  pub member : Sets choice "12021042" (1 ∷ []) (int 0) "0800"
  -- A stray stays.
  pub stray : Sets closed "0807" (1 ∷ []) (enum 1) "08010807"
  -- In a message inside, the rest of it stays, unknown records too.
  pub inside : Sets older_message "1a0408051042" (3 ∷ 2 ∷ []) (int 7) "1a0408051007"
  -- Messages on the path that are absent are made.
  pub made : Sets older_message "" (3 ∷ 3 ∷ 2 ∷ []) (int 0) "1a041a021000"
  -- A path of 101 numbers ends at the last level.
  pub last_level : passes (edited examples LEVEL_LIMIT older_message [] (times 100 3 (2 ∷ [])) (int 5))
      (accepts examples LEVEL_LIMIT my_message)
      ≡ true
