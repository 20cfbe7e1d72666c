use Rattle.std.proofs.Common.{◌+◌, List, drop, ap}
use Rattle.std.proofs.Math.ListN.{drop_of_length-le}
use Rattle.std.specs.Prelude.{map}
use Rattle.nim_tree.specs.Statements.{parameters_of}
use Rattle.nim_program.specs.declared.program.Param.{Param}
use Rattle.decl_parts.proofs.ForCallers.{next_name}
use Rattle.decl_heads.proofs.Grouping.{groups_none, groups_more, groups_stop, groups_end}
use Rattle.decl_heads.proofs.signature.parameters.Goals as goal

pub loop-group-init : goal.loop-group-init
loop-group-init c = groups_none c.args.state.now c.new-all.result c.args.has_result (map parameters_of c.args.groups.now) c.requires.ready c.new-all.ensures

pub loop-group-preserved : goal.loop-group-preserved
loop-group-preserved c =
    let at = c.loop-group in
    let item = c.group-item.result in
    let e = ap (map parameters_of) (next_name c.args.groups.now at.group-index item c.group-item.is c.loop-group-test.true) in
    groups_more (parameters_of item) (map parameters_of (drop (at.group-index + 1) c.args.groups.now)) c.in-Ok.more c.append.new.all e
    c.in_ok-append-in-Ok.ensures.all at.invariant c.in-Ok.ensures

pub returns : goal.returns
returns c =
    let at = c.loop-group in
    groups_end (ap (map parameters_of) (drop_of_length-le c.args.groups.now c.loop-group-test.false)) at.invariant

pub returns-in-Err : goal.returns-in-Err
returns-in-Err c =
    let at = c.loop-group in
    let item = c.group-item.result in
    let e = ap (map parameters_of) (next_name c.args.groups.now at.group-index item c.group-item.is c.loop-group-test.true) in
    groups_stop (λ (d : List Param). d) (parameters_of item) (map parameters_of (drop (at.group-index + 1) c.args.groups.now)) e at.invariant c.in-Err.ensures

pub new_group-requires : goal.new_group-requires
new_group-requires c = record { ready = c.loop-group.invariant.extends.ready }
