use Rattle.nim_meaning.proofs.Whole.{meaning_steady, frames_kept, demand_within, blocks_balanced, blocks_once, demand_asked}
use Rattle.nim_meaning.proofs.laws.meanings.Goals as goal

pub returns-clause-steady : goal.returns-clause-steady
returns-clause-steady c = meaning_steady

pub returns-clause-framed : goal.returns-clause-framed
returns-clause-framed c = frames_kept

pub returns-clause-demand : goal.returns-clause-demand
returns-clause-demand c = demand_within

pub returns-clause-balanced : goal.returns-clause-balanced
returns-clause-balanced c = blocks_balanced

pub returns-clause-once : goal.returns-clause-once
returns-clause-once c = blocks_once

pub returns-clause-asked : goal.returns-clause-asked
returns-clause-asked c = demand_asked
