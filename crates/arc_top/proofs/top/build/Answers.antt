use Rattle.std.proofs.Common.{sym, subst}
use Rattle.source_compiler.specs.Source.{alone}
use Rattle.arc_top.specs.Loads.{files_state}
use Rattle.arc_top.specs.Top.{IsFileOf}
use Rattle.arc_top.proofs.StoreFaults.{rose, stays}
use Rattle.arc_top.proofs.Commands.{built, not_stored, wants_store}
use Rattle.arc_top.proofs.top.build.Goals as goal

pub returns-in-Ok-store : goal.returns-in-Ok-store
returns-in-Ok-store g c =
    let F = g.F.Files in
    let given = c.in-Ok.ensures.compiled in
    let old = c.args.files.now in
    let mid = c.file_bytes.new.files in
    let new = c.store.new.self in
    let file = subst (IsFileOf (alone c.args.main.now given.0) c.args.heap) (sym c.as_slice.ensures) given.2 in
    record {
      builds = built c.args.main.now c.args.out.now given.0 c.as_slice.result.now c.args.heap
          (files_state (F.held old) (F.load_faults old) (F.store_faults old) (F.calls old))
          (files_state (F.held mid) (F.load_faults mid) (F.store_faults mid) (F.calls mid))
          (files_state (F.held new) (F.load_faults new) (F.store_faults new) (F.calls new))
          given.1 file c.store.ensures.calls c.store.ensures.others c.store.ensures.loads c.in-Ok-store.ensures.entry c.in-Ok-store.ensures.cause;
    }

pub returns-in-Err-Failed : goal.returns-in-Err-Failed
returns-in-Err-Failed g c =
    let F = g.F.Files in
    let given = c.in-Ok.ensures.compiled in
    let old = c.args.files.now in
    let mid = c.file_bytes.new.files in
    let new = c.store.new.self in
    let file = subst (IsFileOf (alone c.args.main.now given.0) c.args.heap) (sym c.as_slice.ensures) given.2 in
    record {
      builds = not_stored c.args.main.now c.args.out.now given.0 c.as_slice.result.now c.args.heap
          (files_state (F.held old) (F.load_faults old) (F.store_faults old) (F.calls old))
          (files_state (F.held mid) (F.load_faults mid) (F.store_faults mid) (F.calls mid))
          (files_state (F.held new) (F.load_faults new) (F.store_faults new) (F.calls new))
          given.1 file c.store.ensures.calls c.store.ensures.others c.store.ensures.loads
          (rose _ _ c.store.result c.in-Err-Failed.field-0 c.in-Err-Failed.is c.store.ensures.cause c.in-Err-Failed.field-0-is);
    }

pub returns : goal.returns
returns g c =
    let F = g.F.Files in
    let given = c.in-Ok.ensures.compiled in
    let old = c.args.files.now in
    let mid = c.file_bytes.new.files in
    let new = c.store.new.self in
    let file = subst (IsFileOf (alone c.args.main.now given.0) c.args.heap) (sym c.as_slice.ensures) given.2 in
    record {
      builds = wants_store c.args.main.now c.args.out.now given.0 c.as_slice.result.now c.args.heap
          (files_state (F.held old) (F.load_faults old) (F.store_faults old) (F.calls old))
          (files_state (F.held mid) (F.load_faults mid) (F.store_faults mid) (F.calls mid))
          (files_state (F.held new) (F.load_faults new) (F.store_faults new) (F.calls new))
          given.1 file c.store.ensures.calls c.store.ensures.others c.store.ensures.loads
          (stays _ _ c.store.result c.in-Err-Memory.field-0 c.in-Err-Memory.is c.store.ensures.cause c.in-Err-Memory.field-0-is);
    }
