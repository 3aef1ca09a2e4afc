use Rattle.prost_reflect_dynamic.proofs.Common.{ap, ◌∙◌, DescriptorPool}
use Rattle.prost_reflect_dynamic.proofs.descriptor.kind.Kind.from_table.Goals as goal
use Rattle.prost_reflect_dynamic.proofs.descriptor.kind.Kind.from_table.Goals.{in-Double, in-Float, in-Int32, in-Int64, in-Uint32, in-Uint64, in-Sint32, in-Sint64, in-Fixed32, in-Fixed64, in-Sfixed32, in-Sfixed64, in-Bool, in-String, in-Bytes, in-Message+in_ok-clone-in-Message, in-Enum+in_ok-clone-in-Enum}

pub returns-clause-pool : goal.returns-clause-pool
returns-clause-pool c =
    elim c.match-kind.branch [
      | in-Double w ↦ rw w.result-is tt
      | in-Float w ↦ rw w.result-is tt
      | in-Int32 w ↦ rw w.result-is tt
      | in-Int64 w ↦ rw w.result-is tt
      | in-Uint32 w ↦ rw w.result-is tt
      | in-Uint64 w ↦ rw w.result-is tt
      | in-Sint32 w ↦ rw w.result-is tt
      | in-Sint64 w ↦ rw w.result-is tt
      | in-Fixed32 w ↦ rw w.result-is tt
      | in-Fixed64 w ↦ rw w.result-is tt
      | in-Sfixed32 w ↦ rw w.result-is tt
      | in-Sfixed64 w ↦ rw w.result-is tt
      | in-Bool w ↦ rw w.result-is tt
      | in-String w ↦ rw w.result-is tt
      | in-Bytes w ↦ rw w.result-is tt
      | in-Message+in_ok-clone-in-Message w ↦ rw w.result-is (ap (λ (p : DescriptorPool). p.inner.value) w.new.ensures.pool ∙ w.in_ok-clone-in-Message.ensures.cases)
      | in-Enum+in_ok-clone-in-Enum w ↦ rw w.result-is (ap (λ (p : DescriptorPool). p.inner.value) w.new-in-Enum.ensures.same ∙ w.in_ok-clone-in-Enum.ensures.cases)
    ]
