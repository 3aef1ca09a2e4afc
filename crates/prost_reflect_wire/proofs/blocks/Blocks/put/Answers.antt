use Rattle.std.specs.Prelude.{◌≡◌, ◌++◌}
use Rattle.prost_reflect_wire.proofs.Common.{Ok, Err, Result, arith, sym, ap, ◌∙◌, subst, EncodeError, bytes_of, bytes_in}
use Rattle.std.specs.Result.{OnOk}
use Rattle.prost_reflect_wire.proofs.BlockSteps.{put_counted, put_bytes}
use Rattle.prost_reflect_wire.proofs.blocks.Blocks.put.Goals as goal
use Rattle.prost_reflect_wire.proofs.blocks.Blocks.put.Goals.{in-Ok, in-Err}

pub invariant_of-self-in-Ok : goal.invariant_of-self-in-Ok
invariant_of-self-in-Ok c = record {
  counted = put_counted c.args.self.now c.replace-full.result c.push.new.self.items c.len-len.result c.len-len.ensures c.replace-full.ensures.value c.in-Ok.ensures.items;
  small = omega arith;
}

always : {P : Type 0} (r : Result (Unit {0}) EncodeError) → P → OnOk r P
always (Ok u) p = p
always (Err e) p = tt

pub returns-clause-ok : goal.returns-clause-ok
returns-clause-ok c =
    elim c.match-push.branch [
      | in-Ok w ↦ always c.match-push.result (ap bytes_in w.self-is ∙ put_bytes c.args.self.now c.replace-full.result c.replace-full.new.dest c.args.next c.push.new.self.items c.replace-full.ensures.after c.replace-full.ensures.value w.in-Ok.ensures.items)
      | in-Err w ↦ subst (λ (r : Result (Unit {0}) EncodeError). OnOk r (bytes_in c.match-push.self ≡ bytes_of c.args.next ++ bytes_in c.args.self.now)) (sym w.result-is) tt
    ]
