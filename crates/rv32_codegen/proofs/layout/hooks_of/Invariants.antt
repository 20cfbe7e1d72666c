use Rattle.std.proofs.Common.{◌≡◌, ◌+◌, ◌++◌, length, drop}
use Rattle.rv32_codegen.specs.Layout.{too_far, hook_table}
use Rattle.rv32_codegen.proofs.layout.hooks_of.Given as goal

-- with the hooks of the lines that are left, they are those of all
abbrev pub invariant-loop-line : goal.invariant-loop-line
invariant-loop-line l = record {
  left : l.left + l.line-index ≡ length l.code;
  hooks : l.hooks ++ hook_table (too_far l.code) l.code (drop l.line-index l.code) ≡ hook_table (too_far l.code) l.code l.code;
}
