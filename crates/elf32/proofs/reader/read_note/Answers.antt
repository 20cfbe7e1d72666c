use Rattle.std.proofs.Common.{drop, refl, sym, ap, ◌∙◌, ltb}
use Rattle.std.specs.Prelude.{None}
use Rattle.std.proofs.lemmas.Result.{err_from_is_err_and}
use Rattle.nim_plan.specs.declared.plan.Plan.{Plan}
use Rattle.rv32_isa.specs.Hooks.{code_at}
use Rattle.elf32.specs.declared.file.ElfFault.TheVariants.{Note}
use Rattle.elf32.specs.Reading.{rises, site_before, skip_before, stand}
use Rattle.elf32.proofs.NoteExact.{front_missed, hooks_missed}
use Rattle.elf32.proofs.NoteRead.{because, HooksRead, SitesRead, SinksRead, PlanRead, sites_missed, sinks_missed, skips_missed, more_behind, nothing_left}
use Rattle.elf32.proofs.NoteRead.{plan_read}
use Rattle.elf32.proofs.NoteRead.{hooks_amiss, sites_amiss, sinks_amiss, skips_amiss, note_says}
use Rattle.elf32.proofs.reader.read_note.Goals.{then-not-hooks_stand-via-then-not-hooks_stand}
use Rattle.elf32.proofs.reader.read_note.Goals.{then-not-hooks_stand-via-else-not-hooks_stand+then-not-sites_rise}
use Rattle.elf32.proofs.reader.read_note.Goals.{then-not-sinks_rise-via-then-not-sinks_rise, then-not-sinks_rise-via-else-not-sinks_rise+then-not-skips_rise}
use Rattle.elf32.proofs.reader.read_note.Goals as goal

pub returns-in_err-check_front-clause-bad : goal.returns-in_err-check_front-clause-bad
returns-in_err-check_front-clause-bad c =
    let p = err_from_is_err_and c.from_residual.result c.from_residual.ensures.1 in
    rw (p.1, p.2) (because _ Note (front_missed c.args.size c.args.note.now) c.in_err-check_front.ensures.bad)

pub returns-in_err-hooks-clause-bad : goal.returns-in_err-hooks-clause-bad
returns-in_err-hooks-clause-bad c =
    let p = err_from_is_err_and c.from_residual-in_err-hooks.result c.from_residual-in_err-hooks.ensures.1 in
    rw (p.1, p.2) (because _ Note (hooks_missed c.args.size c.args.note.now) c.in_err-hooks.ensures.bad)

pub returns-in_err-sites-clause-bad : goal.returns-in_err-sites-clause-bad
returns-in_err-sites-clause-bad c =
    let note = c.args.note.now in
    let hooks = c.in_ok-hooks.hooks in
    let read : HooksRead note hooks.items (drop hooks.end note) = record { fit = c.in_ok-hooks.ensures.fits; there = c.in_ok-hooks.ensures.there } in
    let p = err_from_is_err_and c.from_residual-in_err-sites.result c.from_residual-in_err-sites.ensures.1 in
    rw (p.1, p.2) (because _ Note (sites_missed c.args.size note (drop hooks.end note) hooks.items read) c.in_err-sites.ensures.bad)

pub returns-in_err-sinks-clause-bad : goal.returns-in_err-sinks-clause-bad
returns-in_err-sinks-clause-bad c =
    let note = c.args.note.now in
    let hooks = c.in_ok-hooks.hooks in
    let sites = c.in_ok-sites.sites in
    let hooks_read : HooksRead note hooks.items (drop hooks.end note) = record { fit = c.in_ok-hooks.ensures.fits; there = c.in_ok-hooks.ensures.there } in
    let sites_read : SitesRead note hooks.items sites.items (drop sites.end note) =
    record { here = drop hooks.end note; before = hooks_read; fit = c.in_ok-sites.ensures.fits; there = c.in_ok-sites.ensures.there } in
    let p = err_from_is_err_and c.from_residual-in_err-sinks.result c.from_residual-in_err-sinks.ensures.1 in
    rw (p.1, p.2) (because _ Note (sinks_missed c.args.size note (drop sites.end note) hooks.items sites.items sites_read) c.in_err-sinks.ensures.bad)

pub returns-in_err-skips-clause-bad : goal.returns-in_err-skips-clause-bad
returns-in_err-skips-clause-bad c =
    let note = c.args.note.now in
    let hooks = c.in_ok-hooks.hooks in
    let sites = c.in_ok-sites.sites in
    let sinks = c.in_ok-sinks.sinks in
    let hooks_read : HooksRead note hooks.items (drop hooks.end note) = record { fit = c.in_ok-hooks.ensures.fits; there = c.in_ok-hooks.ensures.there } in
    let sites_read : SitesRead note hooks.items sites.items (drop sites.end note) =
    record { here = drop hooks.end note; before = hooks_read; fit = c.in_ok-sites.ensures.fits; there = c.in_ok-sites.ensures.there } in
    let sinks_read : SinksRead note hooks.items sites.items sinks.items (drop sinks.end note) =
    record { here = drop sites.end note; before = sites_read; fit = c.in_ok-sinks.ensures.fits; there = c.in_ok-sinks.ensures.there } in
    let p = err_from_is_err_and c.from_residual-in_err-skips.result c.from_residual-in_err-skips.ensures.1 in
    rw (p.1, p.2) (because _ Note (skips_missed c.args.size note (drop sinks.end note) hooks.items sites.items sinks.items sinks_read)
    c.in_err-skips.ensures.bad)

pub returns-then-skips-note-clause-bad : goal.returns-then-skips-note-clause-bad
returns-then-skips-note-clause-bad c =
    let note = c.args.note.now in
    let hooks = c.in_ok-hooks.hooks.items in
    let plan : Plan = record { sites = c.in_ok-sites.sites.items; sinks = c.in_ok-sinks.sinks.items; skips = c.in_ok-skips.skips.items } in
    let end = c.in_ok-skips.skips.end in
    let read : PlanRead note hooks plan (drop end note) = plan_read note hooks plan c.in_ok-hooks.hooks.end c.in_ok-sites.sites.end c.in_ok-sinks.sinks.end end
    c.in_ok-hooks.ensures.fits c.in_ok-hooks.ensures.there c.in_ok-sites.ensures.fits c.in_ok-sites.ensures.there
    c.in_ok-sinks.ensures.fits c.in_ok-sinks.ensures.there c.in_ok-skips.ensures.fits c.in_ok-skips.ensures.there in
    (refl, more_behind c.args.size end note hooks plan read c.in_ok-skips.ensures.end c.if-skips-note.true)

pub returns-then-not-hooks_stand-clause-bad : goal.returns-then-not-hooks_stand-clause-bad
returns-then-not-hooks_stand-clause-bad c =
    let note = c.args.note.now in
    let hooks = c.in_ok-hooks.hooks.items in
    let plan : Plan = record { sites = c.in_ok-sites.sites.items; sinks = c.in_ok-sinks.sinks.items; skips = c.in_ok-skips.skips.items } in
    let end = c.in_ok-skips.skips.end in
    let read : PlanRead note hooks plan (drop end note) = plan_read note hooks plan c.in_ok-hooks.hooks.end c.in_ok-sites.sites.end c.in_ok-sinks.sinks.end end
    c.in_ok-hooks.ensures.fits c.in_ok-hooks.ensures.there c.in_ok-sites.ensures.fits c.in_ok-sites.ensures.there
    c.in_ok-sinks.ensures.fits c.in_ok-sinks.ensures.there c.in_ok-skips.ensures.fits c.in_ok-skips.ensures.there in (
      refl,
      elim c.then-not-hooks_stand.branch [
        | then-not-hooks_stand-via-then-not-hooks_stand w ↦
            hooks_amiss c.args.size note _ hooks read.before.before.before
            (ap (stand c.args.size code_at) (sym c.as_slice.ensures) ∙ sym c.hooks_stand.ensures ∙ w.if-not-hooks_stand.true)
        | then-not-hooks_stand-via-else-not-hooks_stand+then-not-sites_rise w ↦
            sites_amiss c.args.size note _ hooks plan.sites read.before.before
            (ap (rises site_before None) (sym w.as_slice-else-not-hooks_stand.ensures) ∙ sym w.sites_rise.ensures ∙ w.if-not-sites_rise.true)
      ],
    )

pub returns-then-not-sinks_rise-clause-bad : goal.returns-then-not-sinks_rise-clause-bad
returns-then-not-sinks_rise-clause-bad c =
    let note = c.args.note.now in
    let hooks = c.in_ok-hooks.hooks.items in
    let plan : Plan = record { sites = c.in_ok-sites.sites.items; sinks = c.in_ok-sinks.sinks.items; skips = c.in_ok-skips.skips.items } in
    let end = c.in_ok-skips.skips.end in
    let read : PlanRead note hooks plan (drop end note) = plan_read note hooks plan c.in_ok-hooks.hooks.end c.in_ok-sites.sites.end c.in_ok-sinks.sinks.end end
    c.in_ok-hooks.ensures.fits c.in_ok-hooks.ensures.there c.in_ok-sites.ensures.fits c.in_ok-sites.ensures.there
    c.in_ok-sinks.ensures.fits c.in_ok-sinks.ensures.there c.in_ok-skips.ensures.fits c.in_ok-skips.ensures.there in (
      refl,
      elim c.then-not-sinks_rise.branch [
        | then-not-sinks_rise-via-then-not-sinks_rise w ↦
            sinks_amiss c.args.size note _ hooks plan.sites plan.sinks read.before
            (ap (rises ltb None) (sym c.as_slice-2.ensures) ∙ sym c.sinks_rise.ensures ∙ w.if-not-sinks_rise.true)
        | then-not-sinks_rise-via-else-not-sinks_rise+then-not-skips_rise w ↦
            skips_amiss c.args.size note _ hooks plan read
            (ap (rises skip_before None) (sym w.as_slice-else-not-sinks_rise.ensures) ∙ sym w.skips_rise.ensures ∙ w.if-not-skips_rise.true)
      ],
    )

pub returns-clause-ok : goal.returns-clause-ok
returns-clause-ok c =
    let note = c.args.note.now in
    let hooks = c.in_ok-hooks.hooks.items in
    let plan : Plan = record { sites = c.in_ok-sites.sites.items; sinks = c.in_ok-sinks.sinks.items; skips = c.in_ok-skips.skips.items } in
    let end = c.in_ok-skips.skips.end in
    let read : PlanRead note hooks plan (drop end note) = plan_read note hooks plan c.in_ok-hooks.hooks.end c.in_ok-sites.sites.end c.in_ok-sinks.sinks.end end
    c.in_ok-hooks.ensures.fits c.in_ok-hooks.ensures.there c.in_ok-sites.ensures.fits c.in_ok-sites.ensures.there
    c.in_ok-sinks.ensures.fits c.in_ok-sinks.ensures.there c.in_ok-skips.ensures.fits c.in_ok-skips.ensures.there in
    note_says c.args.size note (drop end note) hooks plan c.in_ok-check_front.ensures.long c.in_ok-check_front.ensures.front
    read (nothing_left end note c.if-skips-note.false)
    (ap (stand c.args.size code_at) (sym c.as_slice.ensures) ∙ sym c.hooks_stand.ensures ∙ c.if-not-hooks_stand.false)
    (ap (rises site_before None) (sym c.as_slice-else-not-hooks_stand.ensures) ∙ sym c.sites_rise.ensures ∙ c.if-not-sites_rise.false)
    (ap (rises ltb None) (sym c.as_slice-2.ensures) ∙ sym c.sinks_rise.ensures ∙ c.if-not-sinks_rise.false)
    (ap (rises skip_before None) (sym c.as_slice-else-not-sinks_rise.ensures) ∙ sym c.skips_rise.ensures ∙ c.if-not-skips_rise.false)
