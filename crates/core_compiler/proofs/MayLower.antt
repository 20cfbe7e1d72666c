-- Block code of flat code of a typed program that is built may become word code: each test of it holds.
use Rattle.std.proofs.Common.{◌≡◌, ℕ, suc, ◌+◌, ◌*◌, ◌≤◌, ◌<◌, Bool, true, false, List, [], ◌∷◌, ◌++◌, length, map, Option, Some, None, refl, sym, ap}
use Rattle.std.proofs.Common.{ap₂, ◌∙◌, subst, arith}
use Rattle.std.specs.Prelude.{nat_eq, nat_le, ◌&&◌, ◌||◌, not}
use Rattle.std.proofs.lemmas.List.{length-map}
use Rattle.std.proofs.lemmas.Bool.{both_ways, and_parts, and_from, eqb-true, eq-eqb, ne_eqb, le-leb}
use Rattle.nim_types.specs.declared.types.TypeDef.{TypeDef}
use Rattle.nim_types.specs.Table.{IsTable}
use Rattle.nim_plan.specs.declared.plan.Plan.{Plan}
use Rattle.flat_code.specs.declared.code.CodeProc.{CodeProc}
use Rattle.flat_code.specs.declared.code.Code.{Code}
use Rattle.flat_code.specs.declared.line.Line.{Line}
use Rattle.flat_code.specs.declared.line.Line.TheVariants as L
use Rattle.flat_code.specs.declared.block.BlockLine.{BlockLine}
use Rattle.flat_code.specs.declared.block.BlockLine.TheVariants as B
use Rattle.flat_code.specs.declared.owned.OwnedLine.{OwnedLine}
use Rattle.flat_code.specs.declared.place.FlatPlace.{FlatPlace}
use Rattle.flat_code.specs.Codes.{each_line, under, owned_plain, block_plain, AreNone}
use Rattle.flat_code.specs.Fits.{Signature, start_places, signatures, proc_fits, each_fits, code_fits, has_lines_for, in_order, are_none, params_at, results_at}
use Rattle.flat_code.specs.Fits.{all_fit}
use Rattle.flat_code.specs.Running.{before_last}
use Rattle.flat_code.specs.Leads.{LeadsRight, AllLeadRight}
use Rattle.flat_code.specs.Scene.{known_in}
use Rattle.flat_code.specs.Sizes.{data_bytes}
use Rattle.flat_code.specs.Whole.{label_in}
use Rattle.flat_code.specs.Alike.{value_name, location_name, label_name, name_of, IsProperty, is_named, is_as, gives_as, AreAlike, AllAlike}
use Rattle.flat_code.specs.BuiltCode.{is_none, IsBuiltProc, AreBuiltProcs}
use Rattle.word_lowering.specs.declared.may_lower.TheConstants.{MOST_ROOM, MOST_VARS, MOST_WAITERS, MOST_FRAME, MOST_DATA}
use Rattle.word_lowering.specs.declared.texts.TheConstants.{FIXED_BYTES}
use Rattle.word_code.specs.declared.word.TheConstants.{SPARE_ROOM, MOST_ARGUMENTS}
use Rattle.word_lowering.specs.declared.homes.Free.{Free}
use Rattle.word_lowering.specs.declared.homes.Housed.{Housed}
use Rattle.word_lowering.specs.declared.homes.Waiter.{Waiter}
use Rattle.word_lowering.specs.Lowered.{data_of}
use Rattle.word_lowering.specs.Aliases.{is_it, standing}
use Rattle.word_lowering.specs.Layouts.{is_empty, free_at, all_housed, behind_all, behind_waiters, waiters, layout_of, layouts, params_in, kept_in}
use Rattle.word_lowering.specs.MayLower.{has_label, is_fresh, labels_once, labels_may, hook_may, placed_bytes, params_lead, all_known, lines_may, result_end}
use Rattle.word_lowering.specs.MayLower.{defs_may, proc_may, procs_may, may_lower}
use Rattle.word_lowering.proofs.ForCallers.{data_sized}
use Rattle.destructor_injection.specs.Injecting.{IsOwned}
use Rattle.goto_exceptions.specs.Branches.{IsBranched}
use Rattle.core_compiler.specs.Stages.{MayBeLowered}
use Rattle.core_compiler.proofs.LineNames.{named}
use Rattle.core_compiler.proofs.LeadsAgree.{led}
use Rattle.core_compiler.proofs.LinesAgree.{never, or_right, may}
use Rattle.core_compiler.proofs.LayoutRooms.{lead_same, room, byte_room, waiters_count, waiting_room, params_room, finds, known_all, result_room}
use Rattle.word_lowering.specs.Lookups.{result_in}

-- ---- labels

abbrev at_label : (place : ℕ) → Option ℕ → List Line → Bool
at_label place None k = false
at_label place (Some x) k = nat_eq (length k) place

-- a label that stands there
abbrev stands_at : (place : ℕ) → Line → (behind : List Line) → Bool
stands_at place line k = at_label place (label_in line) k

no_label : (line : Line) (x n : ℕ) → name_of line ≡ Some n → ((y : ℕ) → n ≡ label_name y → ⊥) → label_in line ≡ Some x → ⊥
no_label line x n e other is =
    let h : is_named (label_name x) (Some n) ≡ true = sym (ap (is_named (label_name x)) e) ∙ (named line).label x ∙ ap (is_it x) is ∙ eq-eqb x x refl in
    other x (eqb-true n (label_name x) h)

unlabelled : (place : ℕ) (line : Line) (k : List Line) → ((x : ℕ) → label_in line ≡ Some x → ⊥) → stands_at place line k ≡ false
unlabelled place line k none = by (label_in line) refl
  where
    by : (o : Option ℕ) → label_in line ≡ o → at_label place (label_in line) k ≡ false
    by None e = ap (λ o. at_label place o k) e
    by (Some x) e = absurd (none x e)

place_property : (place : ℕ) → IsProperty (stands_at place) false
place_property place = record {
  values = λ line to k n bare. unlabelled place line k (λ x is. no_label line x (value_name to) n (λ y e. absurd (omega (arith, e))) is);
  locations = λ line to k l n.
      unlabelled place line k (λ x is. no_label line x (location_name to) n (λ y e. absurd (omega (arith, e))) is)
      ∙ sym (unlabelled place line l (λ x is. no_label line x (location_name to) n (λ y e. absurd (omega (arith, e))) is));
}

label_given : (place x : ℕ) (b : Bool) (line : Line) (k : List Line) → is_it x (label_in line) ≡ true → is_as b (nat_eq (length k) place) ≡ true →
    gives_as (label_name x) (stands_at place) b (line ∷ k) ≡ true
label_given place x b line k i h =
    ap (λ c. c || gives_as (label_name x) (stands_at place) b k)
    (and_from _ _ ((named line).label x ∙ i) (ap (is_as b) (by (label_in line) i) ∙ h))
  where
    by : (o : Option ℕ) → is_it x o ≡ true → at_label place o k ≡ nat_eq (length k) place
    by None e = never e
    by (Some y) e = refl

later : (x : ℕ) (k : List Line) → has_label x k ≡ true → (place : ℕ) × (place < length k) × (gives_as (label_name x) (stands_at place) true k ≡ true)
later x [] h = never h
later x (line ∷ k) h = by (is_it x (label_in line)) refl h (λ e. later x k e)
  where
    by : (b : Bool) → is_it x (label_in line) ≡ b → (b || has_label x k) ≡ true →
        (has_label x k ≡ true → (place : ℕ) × (place < length k) × (gives_as (label_name x) (stands_at place) true k ≡ true)) →
        (place : ℕ) × (place < suc (length k)) × (gives_as (label_name x) (stands_at place) true (line ∷ k) ≡ true)
    by true i e rest = (length k, omega arith, label_given (length k) x true line k i (eq-eqb (length k) (length k) refl))
    by false i e rest =
        let r = rest e in
        let l = r.1 in
        (r.0, omega (arith, l), or_right _ (gives_as (label_name x) (stands_at r.0) true k) r.2)

module _ (whole : List Line) (alike : AreAlike whole) where
  abbrev Ends : List Line → Type 0
  Ends k = (n : ℕ) (has : Line → (behind : List Line) → Bool) (b : Bool) → gives_as n has b k ≡ true → gives_as n has b whole ≡ true

  fresh : (line : Line) (k : List Line) → Ends (line ∷ k) → (o : Option ℕ) → label_in line ≡ o → is_fresh o k ≡ true
  fresh line k ends None e = refl
  fresh line k ends (Some x) e = ap not (by (has_label x k) refl)
    where
      by : (b : Bool) → has_label x k ≡ b → has_label x k ≡ false
      by false h = h
      by true h =
          let r = later x k h in
          let l = r.1 in
          let apart = ne_eqb (length k) r.0 (λ e. absurd (omega (arith, l, e))) in
          let with_it = ends (label_name x) (stands_at r.0) true (or_right _ (gives_as (label_name x) (stands_at r.0) true k) r.2) in
          let without = ends (label_name x) (stands_at r.0) false (label_given r.0 x false line k (ap (is_it x) e ∙ eq-eqb x x refl) (ap not apart)) in
          absurd (both_ways (gives_as (label_name x) (stands_at r.0) true whole && gives_as (label_name x) (stands_at r.0) false whole)
          (alike (label_name x) (stands_at r.0) false (place_property r.0)) (and_from _ _ with_it without))

  all_once : (k : List Line) → Ends k → labels_once k ≡ true
  all_once [] ends = refl
  all_once (line ∷ k) ends =
      and_from _ _ (fresh line k ends (label_in line) refl) (all_once k (λ n has b h. ends n has b (or_right _ (gives_as n has b k) h)))

  pub once : labels_once whole ≡ true
  once = all_once whole (λ n has b h. h)

-- ---- lines of block code are those of flat code

module _ (plan : Plan) where
  line_same : (line : Line) → owned_plain (under plan line) ≡ line
  line_same (L.Get to from how ty) = refl
  line_same line = refl

  pub lines_are : (lines : List Line) → map block_plain (map B.Plain (map (under plan) lines)) ≡ lines
  lines_are [] = refl
  lines_are (line ∷ lines) = ap₂ (λ l ls. l ∷ ls) (line_same line) (lines_are lines)

  -- ---- procedures

  abbrev pub block_of : CodeProc Line → CodeProc BlockLine
  block_of p = each_line B.Plain (each_line (under plan) p)

  module _ (table : List TypeDef) (datum : ℕ) (procs : List Signature) (globals : List FlatPlace) where
    -- one with these lines
    module _ (start : Bool) (p : CodeProc Line) (built : IsBuiltProc (known_in table) 16384 start p) (alike : AreAlike p.lines)
        (fit : all_fit (known_in table) procs globals p.places p.lines ≡ true)
        (leads : LeadsRight (known_in table) p) (is_table : IsTable table) where
      own_may : (ls : List Line) → ls ≡ p.lines →
          (params_lead p.places && (all_known table (all_housed table start ls (free_at datum) p.places) && true)) &&
          lines_may table (all_housed table start ls (free_at datum) p.places) (standing ls) ls ≡ true
      own_may ls e = subst (λ ls. (params_lead p.places && (all_known table (all_housed table start ls (free_at datum) p.places) && true))
          && lines_may table (all_housed table start ls (free_at datum) p.places) (standing ls) ls ≡ true) (sym e) here
        where
          here : (params_lead p.places && (all_known table (all_housed table start p.lines (free_at datum) p.places) && true))
              && lines_may table (all_housed table start p.lines (free_at datum) p.places) (standing p.lines) p.lines ≡ true
          here =
              let hs = all_housed table start p.lines (free_at datum) p.places in
              let found = finds table start p.lines procs globals p.places (free_at datum) in
              and_from _ _
              (and_from _ _ (sym (lead_same p.places) ∙ built.lead)
              (and_from _ _ (known_all table start p.lines p.places (free_at datum) built.places) refl))
              (may table procs globals p.places p.lines alike hs found fit built.lines
              (led table is_table start p.lines p.places (free_at datum) leads.stands procs globals leads.all fit))

      abbrev end_with : List Line → Free
      end_with ls = behind_waiters (behind_all table start ls (free_at datum) p.places) (all_housed table start ls (free_at datum) p.places)

      abbrev waiting_at : List Line → List Waiter
      waiting_at ls = waiters (behind_all table start ls (free_at datum) p.places) (all_housed table start ls (free_at datum) p.places)

      sizes : (ls : List Line) →
          nat_le (end_with ls).byte MOST_ROOM
          && (nat_le (placed_bytes (params_in (all_housed table start ls (free_at datum) p.places))) SPARE_ROOM
          && (nat_le (end_with ls).variable MOST_VARS
          && (nat_le (6 + kept_in (params_in (all_housed table start ls (free_at datum) p.places))) MOST_ARGUMENTS
          && (nat_le (result_end (result_in (all_housed table start ls (free_at datum) p.places))) SPARE_ROOM
          && (nat_le (length (waiting_at ls)) MOST_WAITERS
          && nat_le (4 * (end_with ls).variable + (end_with ls).byte) MOST_FRAME))))) ≡ true
      sizes ls =
          let places = behind_all table start ls (free_at datum) p.places in
          let r = room table start ls p.places (free_at datum) built.globals built.places in
          let y = byte_room table start ls p.places (free_at datum) built.globals built.places in
          let w = waiting_room table start ls p.places (free_at datum) places in
          let x = w.0 in
          let v = w.1 in
          let u = w.2 in
          let n = waiters_count places (all_housed table start ls (free_at datum) p.places) in
          let q = params_room table start ls p.places (free_at datum) built.places in
          let b = built.bytes in
          let a = built.waiting in
          let c = built.params_bytes in
          let d = built.handed_bytes in
          let s = result_room table start ls p.places (free_at datum) built.globals built.places built.handed in
          let end_at : ℕ = result_end (result_in (all_housed table start ls (free_at datum) p.places)) in
          let end : Free = end_with ls in
          let taken : List Housed = params_in (all_housed table start ls (free_at datum) p.places) in
          and_from _ _ (le-leb end.byte MOST_ROOM (omega (arith, x, y, a)))
          (and_from _ _ (le-leb (placed_bytes taken) SPARE_ROOM (omega (arith, q, c)))
          (and_from _ _ (le-leb end.variable MOST_VARS (omega (arith, v, r, b, a)))
          (and_from _ _ (le-leb (6 + kept_in taken) MOST_ARGUMENTS (omega (arith, q, c)))
          (and_from _ _ (le-leb end_at SPARE_ROOM (omega (arith, s, d)))
          (and_from _ _ (le-leb (length (waiting_at ls)) MOST_WAITERS (omega (arith, n, v, a)))
          (le-leb (4 * end.variable + end.byte) MOST_FRAME (omega (arith, u, r, a))))))))

      pub one_may : p.hook ≡ None → proc_may table (layout_of table start datum (block_of p)) (block_of p) ≡ true
      one_may none =
          and_from _ _
          (ap (λ h. (params_lead p.places && (all_known table (all_housed table start (map block_plain (block_of p).lines) (free_at datum) p.places)
          && hook_may h))
          && lines_may table (all_housed table start (map block_plain (block_of p).lines) (free_at datum) p.places)
          (standing (map block_plain (block_of p).lines)) (map block_plain (block_of p).lines)) none
          ∙ own_may (map block_plain (block_of p).lines) (lines_are p.lines))
          (sizes (map block_plain (block_of p).lines))

    -- with data from there on
    none_same : (ps : List (CodeProc Line)) → is_empty (map block_of ps) ≡ is_none ps
    none_same [] = refl
    none_same (p ∷ ps) = refl

    all_may : (ps : List (CodeProc Line)) → AreBuiltProcs (known_in table) 16384 ps → AllAlike ps → AllLeadRight (known_in table) ps → IsTable table →
        AreNone (map (λ (p : CodeProc Line). p.hook) ps) →
        each_fits block_plain (known_in table) procs globals (map block_of ps) ≡ true →
        procs_may table (layouts table datum (map block_of ps)) (map block_of ps) ≡ true
    all_may [] built alike leads is_table none f = refl
    all_may (p ∷ ps) built alike leads is_table none f =
        let q = and_parts (proc_fits block_plain (known_in table) procs globals (block_of p))
        (each_fits block_plain (known_in table) procs globals (map block_of ps)) f in
        let r = (and_parts (in_order block_plain (known_in table) (block_of p)) _ (and_parts (has_lines_for p.places (block_of p).lines) _ q.0).1).1 in
        and_from _ _
        (ap (λ b. proc_may table (layout_of table b datum (block_of p)) (block_of p)) (none_same ps)
        ∙ one_may (is_none ps) p built.0 alike.0
        (sym (ap (all_fit (known_in table) procs globals p.places) (lines_are p.lines)) ∙ r) leads.0 is_table none.0)
        (all_may ps built.1 alike.1 leads.1 is_table none.1 q.1)

  labels_all : (ps : List (CodeProc Line)) → AllAlike ps → labels_may (map block_of ps) ≡ true
  labels_all [] alike = refl
  labels_all (p ∷ ps) alike =
      and_from _ _ (ap labels_once (lines_are p.lines) ∙ once p.lines alike.0) (labels_all ps alike.1)

  -- ---- the whole

  pub blocks_may : (table : List TypeDef) (ps : List (CodeProc Line)) (blocks : Code BlockLine) → blocks.procs ≡ map block_of ps →
      AreBuiltProcs (known_in table) 16384 ps → AllAlike ps → AllLeadRight (known_in table) ps → IsTable table →
      AreNone (map (λ (p : CodeProc Line). p.hook) ps) →
      code_fits block_plain (known_in table) blocks.procs ≡ true → data_bytes block_plain table blocks.procs ≤ 1042432 → defs_may table ≡ true →
      may_lower table blocks ≡ true
  blocks_may table ps blocks e built alike leads is_table none fits few names =
      let f = (and_parts (are_none (params_at (start_places blocks.procs) ++ results_at (start_places blocks.procs))) _ fits).1 in
      let sigs = signatures block_plain (known_in table) (before_last blocks.procs) in
      let globals = start_places blocks.procs in
      let d = data_sized table blocks in
      and_from _ _
      (subst (λ bs. procs_may table (layouts table FIXED_BYTES bs) bs ≡ true) (sym e)
      (all_may table FIXED_BYTES sigs globals ps built alike leads is_table none
      (subst (λ bs. each_fits block_plain (known_in table) sigs globals bs ≡ true) e f)))
      (and_from _ _ (le-leb (length (data_of table blocks.procs)) MOST_DATA (omega (arith, d, few)))
      (and_from _ _ names (subst (λ bs. labels_may bs ≡ true) (sym e) (labels_all ps alike))))

  -- ---- through owned code

  both_lines : (ps : List (CodeProc Line)) → map (each_line B.Plain) (map (each_line (under plan)) ps) ≡ map block_of ps
  both_lines [] = refl
  both_lines (p ∷ ps) = ap (λ bs. block_of p ∷ bs) (both_lines ps)

  pub may_be : (table : List TypeDef) (flat : Code Line) (owned : Code OwnedLine) (blocks : Code BlockLine) → IsOwned flat plan owned →
      IsBranched owned blocks → MayBeLowered table flat → defs_may table ≡ true → IsTable table → may_lower table blocks ≡ true
  may_be table flat owned blocks injected branched h enums is_table =
      let more = branched.form.statics table in
      let most = injected.form.statics table in
      let few = h.data_few in
      blocks_may table flat.procs blocks
      (branched.each ∙ ap (λ ps. map (each_line B.Plain) ps) injected.each ∙ both_lines flat.procs)
      h.built h.alike h.leads is_table h.hooks (branched.form.fits (known_in table) (injected.form.fits (known_in table) h.fits))
      (omega (arith, more, most, few))
      enums

  -- the module's code is there
  pub some_blocks : (table : List TypeDef) (flat : Code Line) (owned : Code OwnedLine) (blocks : Code BlockLine) → IsOwned flat plan owned →
      IsBranched owned blocks → MayBeLowered table flat → 0 < length blocks.procs
  some_blocks table flat owned blocks injected branched h =
      let same = ap length (branched.each ∙ ap (λ ps. map (each_line B.Plain) ps) injected.each ∙ both_lines flat.procs) ∙ length-map flat.procs block_of in
      let some = h.some in
      omega (arith, same, some)
