use Rattle.std.proofs.Common.{◌≡◌, ◌+◌, ◌*◌, [], length}
use Rattle.prost_reflect_tables.specs.Schema.{rows_of, schema_of}
use Rattle.prost_reflect_faults.specs.Searching.{place_at}
use Rattle.prost_reflect_faults.proofs.Taking.{Searched}
use Rattle.prost_reflect_faults.proofs.search.+searching.Given as goal

abbrev pub decreases-search_body : goal.decreases-search_body
decreases-search_body l = 8 * length l.bytes.now

abbrev pub decreases-search_inside : goal.decreases-search_inside
decreases-search_inside l = 8 * length l.bytes.now + 1

abbrev pub decreases-search_group : goal.decreases-search_group
decreases-search_group l = 8 * length l.keyed.behind.now + 2

abbrev pub decreases-search_message : goal.decreases-search_message
decreases-search_message l = 8 * length l.keyed.behind.now + 2

abbrev pub decreases-search_entry : goal.decreases-search_entry
decreases-search_entry l = 8 * length l.keyed.behind.now + 2

abbrev pub decreases-search_value : goal.decreases-search_value
decreases-search_value l = 8 * length l.keyed.behind.now + 3

abbrev pub decreases-search_known : goal.decreases-search_known
decreases-search_known l = 8 * length l.keyed.behind.now + 4

abbrev pub decreases-search_record : goal.decreases-search_record
decreases-search_record l = 8 * length l.keyed.behind.now + 5

abbrev pub invariant-search_body-loop-rest : goal.invariant-search_body-loop-rest
invariant-search_body-loop-rest l = record {
  searched : Searched (schema_of l.tables) (place_at (rows_of l.tables) l.region l.bytes) l.rest;
  path : l.path.items ≡ [];
}

abbrev pub decreases-search_body-loop-rest : goal.decreases-search_body-loop-rest
decreases-search_body-loop-rest l = length l.rest
