use Rattle.prost_reflect_checks.proofs.Common.{List, map, ap, sym, ◌∙◌, is_entry, message_row}
use Rattle.prost_reflect_flat.specs.declared.definitions.FlatMessage.{FlatMessage}
use Rattle.prost_reflect_flat.proofs.EntryFlags.{flag_at}
use Rattle.prost_reflect_checks.proofs.entries.has_entry_bad.Goals as goal

pub is_entry_bad-requires : goal.is_entry_bad-requires
is_entry_bad-requires c =
    c.index.ensures
    ∙ flag_at c.deref-message-items.result.now c.args.resolved.now.entries.items c.loop-place.place c.message-item.result c.index.result.now
    (c.requires.entries ∙ ap (λ (ms : List FlatMessage). map is_entry (map message_row ms)) (sym c.deref-message-items.ensures.value)) c.loop-place-test.true c.message-item.is
