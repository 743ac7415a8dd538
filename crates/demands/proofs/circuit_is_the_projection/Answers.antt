use Rattle.demands.proofs.Laws.{built_projects}
use Rattle.demands.proofs.circuit_is_the_projection.Goals as goal

pub returns : goal.returns
returns c = let h = c.compile_clauses in
    record {
      built = h.ensures.built;
      rows = h.ensures.rows;
      projects = built_projects c.args.clauses.literals.now c.args.clauses.ends.now c.args.table.now _ c.args.limit h.result c.args.clauses.sound h.ensures.built h.ensures.rows;
    }
