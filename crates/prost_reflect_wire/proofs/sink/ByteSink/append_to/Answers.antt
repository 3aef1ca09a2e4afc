use Rattle.std.specs.Prelude.{◌++◌}
use Rattle.prost_reflect_wire.proofs.Common.{List, ℕ, ap, ◌∙◌, err_from_is_err_and}
use Rattle.prost_reflect_wire.proofs.SinkSteps.{written_whole, written_refused, whole_fits}
use Rattle.prost_reflect_wire.proofs.sink.ByteSink.append_to.Goals as goal

pub returns-in_err-self-clause-too_long : goal.returns-in_err-self-clause-too_long
returns-in_err-self-clause-too_long c = let q = err_from_is_err_and c.from_residual.result c.from_residual.ensures.1 in
    rw (q.1, q.2) (λ late start front h adds. written_refused start c.args.self front _ h adds c.in_err-self.was late)

pub returns-clause-ok : goal.returns-clause-ok
returns-clause-ok c = λ start front h adds. c.in_ok-append_to.ensures.ok ∙ ap (λ (l : List ℕ). c.args.out.now.items ++ l) (written_whole start c.args.self front _ h adds c.in_ok-self.was)

pub returns-clause-fits : goal.returns-clause-fits
returns-clause-fits c = λ start front h adds. whole_fits c.args.self front (written_whole start c.args.self front _ h adds c.in_ok-self.was)
