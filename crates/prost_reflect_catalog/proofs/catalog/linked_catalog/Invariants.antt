use Rattle.prost_reflect_catalog.proofs.catalog.linked_catalog.Given as goal

abbrev pub ghost-lists_of_messages : goal.ghost-lists_of_messages
ghost-lists_of_messages g a = g.new

abbrev pub ghost-linked_extensions : goal.ghost-linked_extensions
ghost-linked_extensions g a = g.new
