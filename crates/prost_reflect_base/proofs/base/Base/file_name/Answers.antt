use Rattle.std.specs.declared.rc.Rc.{Rc}
use Rattle.std.specs.declared.alloc.Global.{Global}
use Rattle.std.proofs.Common.{rules, length, refl, ap, ◌∙◌}
use Rattle.std.proofs.lemmas.Option.{slice_get_read, slice_get_past}
use Rattle.prost_reflect_tables.specs.Faults.{file_names}
use Rattle.prost_reflect_tables.specs.Names.{text_or_empty}
use Rattle.prost_reflect_types.specs.declared.FileDescriptorProto.{FileDescriptorProto}
use Rattle.prost_reflect_pool.specs.Pools.{files_of}
use Rattle.prost_reflect_pool.proofs.InCatalog.{file_name}
use Rattle.prost_reflect_base.proofs.NamedPlaces.{name_there, no_name}
use Rattle.prost_reflect_base.proofs.base.Base.file_name.Goals as goal

pub returns-in-Some : goal.returns-in-Some
returns-in-Some c =
    let pool = c.args.self.now.pool.now in
    let h = c.in-Some.ensures.lookup.3 in
    let xs = c.files.result.now in
    c.text_or_empty.ensures
    ∙ (ap (λ (f : FileDescriptorProto). text_or_empty f.name) c.deref.ensures
    ∙ name_there (λ (f : Rc FileDescriptorProto Global). f.value) file_name xs (files_of pool) (file_names (files_of pool)) c.args.place c.in-Some.file.now c.files.ensures refl
    (slice_get_read xs (length xs) c.args.place c.in-Some.file.now refl h.0 (h.1 c.in-Some.file.now)))

pub returns-in-None : goal.returns-in-None
returns-in-None c =
    let pool = c.args.self.now.pool.now in
    let xs = c.files.result.now in
    no_name (λ (f : Rc FileDescriptorProto Global). f.value) file_name xs (files_of pool) (file_names (files_of pool)) c.args.place c.files.ensures refl (slice_get_past xs c.args.place (let h = c.in-None.ensures.lookup in search rules))
