use Rattle.word_code.proofs.ForCallers.{law_by}
use Rattle.std.proofs.Common.{List, ◌≡◌, ◌≤◌, ◌-◌, ◌++◌, ◌∙◌, length, slice_get, sym, ap, subst, arith}
use Rattle.rv32_isa.specs.Regions.{AreBytes}
use Rattle.word_code.specs.declared.word.WordCode.{WordCode}
use Rattle.word_code.specs.declared.word.WordProc.{WordProc}
use Rattle.hook_code.specs.HookCode.{procs_in}
use Rattle.word_lowering.specs.LineCode.{all_labels, proc_number}
use Rattle.word_lowering.proofs.HookProcs.{HookLaws}
use Rattle.std.specs.Option.{option_copied}
use Rattle.word_lowering.specs.declared.texts.TheConstants.{FIXED_BYTES}
use Rattle.word_lowering.specs.LaidTexts.{LaidCode}
use Rattle.word_lowering.specs.Lowered.{around_start}
use Rattle.word_lowering.specs.Scope.{around_of, HasRoom}
use Rattle.word_lowering.specs.Texts.{padded, laid_texts, data_with}
use Rattle.word_lowering.proofs.BlocksFollowed.{lowers_given}
use Rattle.word_lowering.proofs.TextRoom.{texts_small, names_small, start_room}
use Rattle.word_lowering.proofs.WholeCode.{last_there, layouts_length, both, whole_by}
use Rattle.word_lowering.proofs.lowering.words_of.Goals as goal

pub all_procs-requires : goal.all_procs-requires
all_procs-requires c =
    subst HasRoom
    (sym (c.start_scope-x.ensures ∙ ap (λ (code : LaidCode). around_start c.args.types.now code.procs c.args.layouts.now c.in-Some.own.now)
    c.in_ok-out.ensures.texts))
    (start_room c.args.types.now c.args.blocks.now c.requires.may c.as_slice-procs.result.now c.args.layouts.now c.in-Some.own.now
    c.as_slice-procs.ensures c.requires.layouts (sym c.in-Some.ensures.value) c.requires.forms)

pub start_scope-x-requires-clause-room : goal.start_scope-x-requires-clause-room
start_scope-x-requires-clause-room c =
    texts_small c.args.types.now c.args.blocks.now c.requires.may c.as_slice-procs.result.now c.args.layouts.now c.in-Some.own.now
    c.as_slice-procs.ensures c.requires.layouts (sym c.in-Some.ensures.value)

pub start_scope-x-requires-clause-from : goal.start_scope-x-requires-clause-from
start_scope-x-requires-clause-from c = ap (λ (code : LaidCode). code.from) c.in_ok-out.ensures.texts ∙ c.in_ok-from.ensures

pub data-requires : goal.data-requires
data-requires c =
    names_small c.args.types.now c.args.blocks.now c.requires.may c.as_slice-procs.result.now c.args.layouts.now c.in-Some.own.now
    c.as_slice-procs.ensures c.requires.layouts (sym c.in-Some.ensures.value)

-- there is a last procedure, and so a last layout
pub unreachable-requires : goal.unreachable-requires
unreachable-requires c =
    let n = layouts_length c.args.types.now FIXED_BYTES c.args.blocks.now.procs in
    let l = ap length c.requires.layouts in
    let some = c.requires.some in
    let all = c.args.layouts.now in
    last_there all (omega (arith, n, l, some)) (subst (λ r. option_copied r ≡ slice_get all (length all - 1)) c.in_default.is c.last.ensures.value)

pub returns : goal.returns
returns c =
    let all = c.push_hooks.new.all in
    -- the texts as they are laid out
    let texts = c.as_slice.ensures ∙ c.in_ok-out.ensures.bytes ∙ ap (λ n. laid_texts n c.as_slice-procs.result.now) c.in_ok-from.ensures in
    let laws : HookLaws = record {
      formed = c.hook_procedures.ensures.formed;
      unhooked = c.hook_procedures.ensures.unhooked;
      there = c.hook_procedures.ensures.there;
      cuts_there = c.hook_procedures.ensures.cuts_there;
      ordered = c.hook_levels.ensures.ordered;
      ranks = c.hook_levels.ensures.ranks;
      ranked = c.hook_levels.ensures.ranked;
    } in
    let given =
    whole_by c.args.types.now c.args.blocks.now c.as_slice-procs.result.now c.args.layouts.now
    c.in-Some.own.now c.in-Some-last.start.now (around_of c.start_scope-x.result) all c.in_ok-statics.statics
    c.as_slice-procs.ensures c.requires.layouts (sym c.in-Some.ensures.value) (sym c.in-Some-last.ensures.value)
    (c.start_scope-x.ensures ∙ ap (λ (code : LaidCode). around_start c.args.types.now code.procs c.args.layouts.now c.in-Some.own.now)
    c.in_ok-out.ensures.texts)
    (c.in_ok-push_hooks.ensures
    ∙ ap (λ (l : List WordProc). l ++ procs_in c.args.types.now (proc_number (length c.as_slice-procs.result.now))) c.in_ok-all.ensures)
    (c.in_ok-statics.ensures ∙ ap (λ ts. padded (data_with c.args.types.now c.in-Some.own.now.free.datum ts)) texts)
    c.requires.may in
    -- the data are bytes, and so is each text in them
    let letters = subst AreBytes (c.as_slice-bytes.ensures ∙ ap (λ (w : WordCode). w.statics) given.is) c.are_bytes.ensures.below in
    -- a number of 32 bits counts labels
    let few = subst (λ ps. all_labels ps ≤ 4294967295) c.as_slice-procs.ensures c.in_ok-few_labels.ensures in
    lowers_given c.args.types.now c.args.blocks.now (both c.args.types.now c.args.blocks.now all c.in_ok-statics.statics)
    c.count-types.ensures.table c.requires.forms
    (law_by c.memories.ensures.sizes c.memories.ensures.bytes c.memories.ensures.regions c.memories.ensures.stores c.memories.ensures.here
    c.memories.ensures.elsewhere) laws
    (record { short = c.arrays_are_short.ensures; small = c.in_ok-elements_are_small.ensures }) letters few given

pub texts_address-requires : goal.texts_address-requires
texts_address-requires c =
    texts_small c.args.types.now c.args.blocks.now c.requires.may c.as_slice-procs.result.now c.args.layouts.now c.in-Some.own.now
    c.as_slice-procs.ensures c.requires.layouts (sym c.in-Some.ensures.value)
