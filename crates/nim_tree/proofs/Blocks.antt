-- A block that is there has one level more than the highest of its statements.
use Rattle.std.proofs.Common.{◌≡◌, ◌<◌, List, [], ◌∷◌, length, suc, refl, arith}
use Rattle.nim_tree.specs.declared.stmt.Stmt.{Stmt}
use Rattle.nim_tree.specs.Statements.{statements_of, block_levels, levels_if_block}

pub block_there : (block : List Stmt) → 0 < length block → levels_if_block (statements_of block) ≡ suc (block_levels (statements_of block))
block_there [] h = absurd (omega arith)
block_there (first ∷ rest) h = refl
