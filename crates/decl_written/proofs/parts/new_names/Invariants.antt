use Rattle.std.proofs.Common.{◌≡◌, ℕ, List, ◌++◌, drop}
use Rattle.decl_rules.specs.Written.{field_names_rule}
use Rattle.decl_written.specs.ViewWritten.{HasNames, normal_names}
use Rattle.decl_written.proofs.parts.new_names.Given as goal

abbrev pub invariant-loop-name : goal.invariant-loop-name
invariant-loop-name l = record {
  left : (before : List (List ℕ)) → HasNames l.fn.seen before
      → (now : List (List ℕ)) × HasNames l.seen now × (field_names_rule before l.fn.declared ≡ field_names_rule now (drop l.name-index l.declared));
  names : l.names ++ normal_names (drop l.name-index l.declared) ≡ l.fn.names ++ normal_names l.fn.declared;
}
