-- What is around the lines of a procedure, as the code has it.
use Rattle.std.specs.Prelude.{◌≤◌, suc, ◌+◌, ◌*◌, length}
use Rattle.word_lowering.specs.declared.scope.Scope.{Scope}
use Rattle.word_lowering.specs.Layouts.{IsCounted, AreCounted}
use Rattle.word_lowering.specs.LineCode.{Around}
use Rattle.word_lowering.specs.Stored.{HaveForms}
use Rattle.word_lowering.specs.declared.texts.TheConstants.{HANDLE_BYTES}
use Rattle.word_lowering.specs.Linked.{laid_out}
use Rattle.word_lowering.specs.Texts.{all_names, laid_length}

abbrev pub around_of : Scope → Around
around_of x = record {
  table = x.types.now;
  procs = x.texts.now.procs;
  from = x.texts.now.from;
  layouts = x.layouts.now;
  own = x.own.now;
  globals = x.globals.now;
  setting = x.setting;
}

-- Types have forms, and what is counted has numbers of 32 bits: what layouts take, where the names of enums end, and where texts stand.
pub record HasRoom (x : Around) : Type 0 where
  pub forms : HaveForms x.table
  pub own : IsCounted x.own
  pub layouts : AreCounted x.layouts
  pub names : x.setting.ends + 4 * suc (length (all_names x.table)) ≤ 4294967295
  pub texts : x.setting.texts + (HANDLE_BYTES + laid_length (laid_out x.from x.procs)) ≤ 4294967295
