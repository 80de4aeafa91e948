-- `Pattern::entries` meets its contract.
use native.Mathlib.Omega.{arith}
use Rattle.checks.proofs.Accepted.{accepted_pointers}
use Rattle.checks.proofs.Pattern.entries.Goals as goal

pub number_at-requires : goal.number_at-requires
number_at-requires c =
    let p = c.self.inside in
    let right = accepted_pointers p.columns p.pointers.now p.rows.now c.self.invariant in
    record { within = omega (arith, right.size); sign = right.sign p.columns }

pub returns-clause-limited : goal.returns-clause-limited
returns-clause-limited c =
    let p = c.self.inside in
    let right = accepted_pointers p.columns p.pointers.now p.rows.now c.self.invariant in
    omega (arith, right.most, c.number_at.ensures)
