use Rattle.std.proofs.Common.{◌≡◌, ℕ, List, arith, ap, [], length, sym, subst, ◌∙◌, ◌++◌}
use Rattle.std.specs.Prelude.{Ok, Err, map}
use Rattle.arc_base.specs.Refusal.{Answers}
use Rattle.std.proofs.lemmas.List.{length-map}
use Rattle.nim_tree.specs.Types.{declaration_of}
use Rattle.nim_types.specs.Table.{facts_in}
use Rattle.expr_parts.specs.View.{env_of}
use Rattle.decl_rules.specs.Meanings.{keys_of, known_of}
use Rattle.decl_rules.specs.Sections.{none_read, containment_rule, declarations_rule, sizes_rule}
use Rattle.decl_types.specs.ViewKnown.{KnownAs, Holds, meaning_by}
use Rattle.decl_types.specs.ViewReading.{all_defined}
use Rattle.expr_parts.proofs.ForCallers.{ready_on}
use Rattle.decl_types.proofs.ForCallers.{kept_grown, kept_on}
use Rattle.decl_types.specs.ViewScoped.{Reads, own_in, decls_by}
use Rattle.decl_sections.specs.ViewWalk.{StageOf}
use Rattle.decl_types.specs.ViewScoped.{Whole}
use Rattle.std.specs.Prelude.{Option}
use Rattle.decl_types.specs.ViewContained.{NoneContained}
use Rattle.decl_types.specs.ViewMarks.{is_unknown, Unmarked}
use Rattle.decl_types.proofs.ForCallers.{all_known, known_as, none_stuck}
use Rattle.decl_sections.proofs.Ending.{leads_answers, contained_behind, whole_is, section_contained, section_sized, section_untouched}
use Rattle.decl_types.proofs.ForCallers.{on_any}
use Rattle.decl_sections.proofs.walk.walk.Goals as goal

pub returns-in-Err-clause-answers : goal.returns-in-Err-clause-answers
returns-in-Err-clause-answers c = λ ts st old n u f empty g.
    let all = map declaration_of c.args.defs.now in
    leads_answers (Unit {0}) (Unit {0}) (StageOf ts st all old n c.read_all.new.types c.read_all.new.scope c.read_all.new.reading)
    (λ _. env_of ts (facts_in c.read_all.new.types) c.read_all.new.scope) (declarations_rule st all none_read all) (contained_behind st all) c.in-Err.stop
    (c.in-Err.ensures.leads ts st old n u f empty g)

pub returns-in-Err-check_contained-clause-answers : goal.returns-in-Err-check_contained-clause-answers
returns-in-Err-check_contained-clause-answers c = λ ts st old n u f empty g.
    let all = map declaration_of c.args.defs.now in
    let read = c.in-Ok.ensures.leads ts st old n u f empty g in
    let count = c.in-Ok.ensures.count empty ∙ sym (length-map c.args.defs.now declaration_of) in
    let whole = whole_is ts st all old n c.args.frame.now c.read_all.new.types c.read_all.new.scope c.read_all.new.reading read.0 f read.2 count in
    section_contained {T = Unit {0}} ts st all old n c.args.frame.now c.read_all.new.types c.read_all.new.scope c.read_all.new.reading read.0
    (λ _. env_of ts (facts_in c.read_all.new.types) c.read_all.new.scope) c.in-Err-check_contained.stop read.1 read.2
    (subst (λ ds. Answers {A = Unit {0}} {T = Unit {0}} (λ _. tt) (containment_rule (all_defined ts (keys_of all) ds) (all_defined ts (keys_of all) ds))
    (Err c.in-Err-check_contained.stop)) c.as_slice.ensures.value
    (c.in-Err-check_contained.ensures.answers ts n (length all) (keys_of all)
    (subst (Whole ts n (length all) (keys_of all)) (sym c.as_slice.ensures.value) whole)))

pub returns-clause-kept : goal.returns-clause-kept
returns-clause-kept c =
    kept_on c.args.types.now c.read_all.new.types c.check_sizes.new.types c.read_all.ensures.kept
    (kept_grown c.read_all.new.types c.check_sizes.new.types c.check_sizes.ensures.grown)

pub returns-clause-ready : goal.returns-clause-ready
returns-clause-ready c = on_any c.check_sizes.result (ready_on c.check_sizes.ensures.grown c.in-Ok.ensures.ready)

pub returns-clause-answers : goal.returns-clause-answers
returns-clause-answers c = λ ts st old n u f empty g.
    let all = map declaration_of c.args.defs.now in
    let frame = c.args.frame.now in
    let mid = c.read_all.new.types in
    let es = c.check_sizes.new.types in
    let scope = c.read_all.new.scope in
    let reading = c.read_all.new.reading in
    let v = (kept_grown mid es c.check_sizes.ensures.grown).under ts (facts_in es) u in
    let read = c.in-Ok.ensures.leads ts st old n v f empty g in
    let k = known_of (keys_of all) read.0.defined in
    let count = c.in-Ok.ensures.count empty ∙ sym (length-map c.args.defs.now declaration_of) in
    let whole = whole_is ts st all old n frame mid scope reading read.0 f read.2 count in
    let contained = subst (λ ds. containment_rule (all_defined ts (keys_of all) ds) (all_defined ts (keys_of all) ds) ≡ Ok tt) c.as_slice.ensures.value
    (c.in-Ok-check_contained.ensures.answers ts n (length all) (keys_of all)
    (subst (Whole ts n (length all) (keys_of all)) (sym c.as_slice.ensures.value) whole)) in
    let sizes = subst (λ ds. Answers {A = Unit {0}} {T = Unit {0}} (λ _. tt) (sizes_rule (facts_in es) k (all_defined ts (keys_of all) ds))
    c.check_sizes.result) c.as_slice-3.ensures.value
    (c.check_sizes.ensures.answers n (length all) ts (facts_in es) (keys_of all) k u
    (subst (Reads n (length all) (keys_of all)) (sym c.as_slice-3.ensures.value) read.2.reads)
    (subst (λ ks. KnownAs ts (keys_of all) ks (meaning_by k)) (sym c.as_slice-2.ensures.value)
    (known_as ts (keys_of all) k reading.known.items read.2.scoped.knows))
    (section_untouched ts st all old n frame mid scope reading read.0 f read.2)) in
    section_sized ts st all old n frame mid es scope reading read.0 c.check_sizes.result read.1 f read.2
    (c.check_sizes.ensures.grown.under ts (facts_in es) u).said contained
    sizes

pub returns-clause-begins : goal.returns-clause-begins
returns-clause-begins c = λ ts st old n u f empty g.
    let all = map declaration_of c.args.defs.now in
    let mid = c.read_all.new.types in
    let es = c.check_sizes.new.types in
    let v = (kept_grown mid es c.check_sizes.ensures.grown).under ts (facts_in es) u in
    let read = c.in-Ok.ensures.leads ts st old n v f empty g in
    let here = read.2.scoped in
    on_any c.check_sizes.result (decls_by (own_in st) [] c.read_all.new.reading.known.items all ++ here.seen, here.decls)

pub check_sizes-requires-clause-formed : goal.check_sizes-requires-clause-formed
check_sizes-requires-clause-formed c = c.in-Ok.ensures.ready.formed

pub check_sizes-requires-clause-holds : goal.check_sizes-requires-clause-holds
check_sizes-requires-clause-holds c =
    let n = c.read_all.new.types in
    subst (Holds n c.as_slice-2.result.now) (sym c.as_slice-3.ensures.value)
    (subst (λ known. Holds n known c.read_all.new.reading.read.items) (sym c.as_slice-2.ensures.value) c.in-Ok.ensures.holds)

pub read_all-requires-clause-room : goal.read_all-requires-clause-room
read_all-requires-clause-room c = let e = ap length c.requires.none_read in omega (arith, e, c.requires.known)

pub read_all-requires-clause-stuck : goal.read_all-requires-clause-stuck
read_all-requires-clause-stuck c = none_stuck (map is_unknown c.args.reading.now.known.items) c.args.reading.now.read.items c.requires.none_read

pub check_sizes-requires-clause-room : goal.check_sizes-requires-clause-room
check_sizes-requires-clause-room c =
    let k = c.in-Ok.ensures.known in
    let n = c.in-Ok.ensures.count c.requires.none_read in
    let a = ap length c.as_slice-2.ensures.value in
    let b = ap length c.as_slice-3.ensures.value in
    omega (arith, k, n, a, b, c.requires.known)

pub check_sizes-requires-clause-all : goal.check_sizes-requires-clause-all
check_sizes-requires-clause-all c =
    let known = c.read_all.new.reading.known.items in
    let read = c.read_all.new.reading.read.items in
    let count : length known ≡ length read = c.in-Ok.ensures.known ∙ c.requires.known ∙ sym (c.in-Ok.ensures.count c.requires.none_read) in
    let none = subst NoneContained c.as_slice.ensures.value c.in-Ok-check_contained.ensures.none in
    subst (λ (ks : List (Option ℕ)). Unmarked (map is_unknown ks)) (sym c.as_slice-2.ensures.value) (all_known known read count c.in-Ok.ensures.stuck none)
