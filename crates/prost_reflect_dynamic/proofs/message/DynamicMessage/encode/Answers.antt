use Rattle.prost_reflect_dynamic.proofs.Common.{ℕ, List, Ok, Err, Result, on_ok_weaker, encoded, kept, content_of}
use Rattle.std.specs.Result.{IfErr}
use Rattle.prost_reflect_dynamic.proofs.ReadBack.{reads_back, only_of}
use Rattle.prost_reflect_dynamic.proofs.message.DynamicMessage.encode.Goals as goal

-- what every refusal says is said of a refusal
err_weaker : {T E : Type 0} (r : Result T E) (P Q : E → Type 0) → ((e : E) → P e → Q e) → IfErr r P → IfErr r Q
err_weaker (Ok t) P Q w h = tt
err_weaker (Err e) P Q w h = w e h

pub returns-clause-too_long : goal.returns-clause-too_long
returns-clause-too_long c =
    let written : List ℕ = encoded (kept (content_of c.args.self.now)) in
    err_weaker c.append_to.result _ _ (λ e long late. long late c.new-sink.result written c.new-sink.ensures c.write_body.ensures) c.append_to.ensures.too_long

pub returns-clause-reads_back : goal.returns-clause-reads_back
returns-clause-reads_back c =
    let written : List ℕ = encoded (kept (content_of c.args.self.now)) in
    on_ok_weaker c.append_to.result (λ fits stored. reads_back c.args.self.now stored (fits c.new-sink.result written c.new-sink.ensures c.write_body.ensures)) c.append_to.ensures.fits

pub returns-clause-canonical : goal.returns-clause-canonical
returns-clause-canonical c =
    let written : List ℕ = encoded (kept (content_of c.args.self.now)) in
    on_ok_weaker c.append_to.result (λ fits stored. only_of c.args.self.now stored (fits c.new-sink.result written c.new-sink.ensures c.write_body.ensures)) c.append_to.ensures.fits
