use Rattle.prost_reflect_pool.proofs.Common.{rules, ap, Global, ◌∙◌, Rc, FileDescriptorProto, text_there, no_text}
use Rattle.prost_reflect_pool.proofs.InCatalog.{file_name}
use Rattle.prost_reflect_pool.proofs.pool.LinkedPool.file_name.Goals as goal

pub returns-in-Some : goal.returns-in-Some
returns-in-Some c =
    let h = c.in-Some.ensures.lookup.3 in
    c.text_or_empty.ensures ∙ ap file_name c.deref-in-Some.ensures ∙ text_there (λ (f : Rc FileDescriptorProto Global). f.value) file_name c.args.self.now.files.items _ c.args.place c.in-Some.file.now c.deref.ensures.value h.0 (h.1 c.in-Some.file.now)

pub returns-in-None : goal.returns-in-None
returns-in-None c = no_text (λ (f : Rc FileDescriptorProto Global). f.value) file_name c.args.self.now.files.items c.deref.result.now c.args.place c.deref.ensures.value (let h = c.in-None.ensures.lookup in search rules)
