-- Hooks keep their promise, by ranks of types: a hook calls hooks of types of lower ranks, or other hooks of its type.
use Rattle.std.proofs.Common.{◌≡◌, ◌⊎◌, inl, inr, ℕ, zero, suc, ◌+◌, ◌*◌, ◌<◌, ◌≤◌, Bool, true, false, List, [], ◌∷◌, Some, refl, sym, ap, ◌∙◌, arith, le_refl}
use Rattle.std.proofs.Common.{mul-le-mul}
use Rattle.std.specs.Prelude.{slice_get, if◌then◌else◌, ◌-◌}
use Rattle.std.proofs.lemmas.Bool.{false≢true}
use Rattle.nim_types.specs.declared.types.TypeDef.{TypeDef}
use Rattle.nim_types.specs.declared.types.TypeDef.TheVariants as D
use Rattle.nim_types.specs.declared.types.TheConstants.{LIST_BYTES}
use Rattle.nim_meaning.specs.Deeds.{Done, Answers, Finishes, Fails, perform}
use Rattle.flat_code.specs.Scene.{known_in}
use Rattle.flat_code.specs.Lines.{form_in}
use Rattle.rv32_isa.specs.Machine.{Lives}
use Rattle.word_code.specs.declared.word.WordProc.{WordProc}
use Rattle.word_code.specs.Words.{Fresh}
use Rattle.word_code.specs.Joined.{moved}
use Rattle.hook_lifting.specs.declared.lifted.Hook.{Hook}
use Rattle.hook_lifting.specs.declared.lifted.Hook.TheVariants.{Copies, Assigns, Sinks, Ends}
use Rattle.hook_lifting.specs.declared.lifted.LiftedLine.{LiftedLine}
use Rattle.hook_lifting.specs.Lifted.{has_hooks, is_needed, is_routine, lines_of, part_lines, to_part}
use Rattle.hook_lifting.specs.Lifting.{hook_deed}
use Rattle.hook_lifting.specs.Weights.{least_pace, extra_of, is_built}
use Rattle.hook_lifting.specs.Doing.{Does_hook}
use Rattle.hook_lifting.proofs.ForCallers.{least_walk}
use Rattle.hook_code.specs.HookCode.{hook_number, proc_with, lines_code, body_code}
use Rattle.hook_code.specs.Surroundings.{Surroundings}
use Rattle.hook_code.specs.Promises.{Comes, AnyWord, IsMade, Routines, IsKept}
use Rattle.hook_code.specs.Kept.{IsOrdered, AreThere, chain_of, pace_at, rank_in}
use Rattle.hook_code.proofs.HookRuns.{back_in, over_in, hook_comes}
use Rattle.hook_code.proofs.Fitting.{Needs, labels_of, all_fit}
use Rattle.hook_code.proofs.Needed.{part_chain, some_chain, needs_of}

-- ---- there are lines

abbrev pub IsSome_line : List LiftedLine → Type 0
IsSome_line [] = ⊥
IsSome_line (line ∷ lines) = Unit {0}

pub body_is : (table : List TypeDef) (first ty : ℕ) (hook : Hook) (lines : List LiftedLine) → IsSome_line lines
    → body_code table first ty hook lines ≡ lines_code table first ty lines []
body_is table first ty hook [] some = absurd some
body_is table first ty hook (line ∷ lines) some = refl

module _ (table : List TypeDef) where
  parts_some : (hook : Hook) (ps : List ℕ) (i : ℕ) (k : List LiftedLine) → IsSome_line k → IsSome_line (part_lines table hook ps i k)
  parts_some hook [] i k some = some
  parts_some hook (p ∷ ps) i k some = by (is_needed hook (has_hooks table p)) (parts_some hook ps (suc i) k some)
    where
      by : (needed : Bool) → IsSome_line (part_lines table hook ps (suc i) k)
          → IsSome_line (if needed then to_part hook p i (part_lines table hook ps (suc i) k) else part_lines table hook ps (suc i) k)
      by true later = tt
      by false later = later

  pub lines_some : (hook : Hook) (ty : ℕ) (d : TypeDef) → is_routine d hook ≡ false → IsSome_line (lines_of table hook ty d)
  lines_some Copies ty D.Text runs = absurd (false≢true (sym runs))
  lines_some Ends ty D.Text runs = absurd (false≢true (sym runs))
  lines_some Assigns ty D.Text runs = tt
  lines_some Sinks ty D.Text runs = tt
  lines_some Copies ty (D.Seq el) runs = tt
  lines_some Assigns ty (D.Seq el) runs = tt
  lines_some Sinks ty (D.Seq el) runs = tt
  lines_some Ends ty (D.Seq el) runs = tt
  lines_some hook ty (D.Array n el) runs = tt
  lines_some hook ty (D.Tuple names ps) runs = parts_some hook ps 0 _ tt
  lines_some hook ty (D.Object name at of fields true ps) runs = tt
  lines_some hook ty (D.Object name at of fields false ps) runs = parts_some hook ps 0 _ tt
  lines_some hook ty (D.Distinct name at base) runs = tt
  lines_some hook ty D.Int runs = tt
  lines_some hook ty D.Bool runs = tt
  lines_some hook ty D.Char runs = tt
  lines_some hook ty (D.Param n) runs = tt
  lines_some hook ty (D.Enum name at all) runs = tt
  lines_some hook ty (D.Ref name base) runs = tt
  lines_some hook ty (D.Exception name at parent) runs = tt

  module _ (z : Surroundings table) (live : Lives) (procs : List WordProc) (fresh : Fresh) (first : ℕ) where
    abbrev pub Promised : (chain pace : ℕ) → Hook → ℕ → Type 0
    Promised chain pace hook ty = IsKept table z live procs fresh first chain pace hook ty

    -- in a longer chain, and in more lines
    pub kept_longer : (hook : Hook) (ty few many slow fast : ℕ) → few ≤ many → fast ≤ slow → Promised few fast hook ty → Promised many slow hook ty
    kept_longer hook ty few many slow fast le slower kept low top h d w s to rest l from a b called leads_to leads_from fits =
        by (perform (hook_deed (known_in table) hook ty l from) w)
        (kept low top h d w s to rest l from a b called leads_to leads_from
        (let e : LIST_BYTES * few ≤ LIST_BYTES * many = omega (arith, le) in omega (arith, fits, e)))
      where
        more : (n : ℕ) → 1 + fast * n ≤ 1 + slow * n
        more n = let e : fast * n ≤ slow * n = mul-le-mul slower (le_refl n) in omega (arith, e)

        by : (done : Done (Unit {0})) → Comes table z live procs fresh low top h d (AnyWord table z live procs fresh) s to rest (λ n. 1 + fast * n) done
            → Comes table z live procs fresh low top h d (AnyWord table z live procs fresh) s to rest (λ n. 1 + slow * n) done
        by (Answers es n u w1) x = (x.0, back_in table z live procs fresh _ _ (more n) x.1)
        by (Finishes es n status w1) x = (x.0, over_in table z live procs fresh _ _ (more n) x.1)
        by (Fails es n w1) x = tt

    module _ (routines : Routines table z live procs fresh) (there : AreThere table first procs) (laws : (hook : Hook) (ty : ℕ) (d : TypeDef)
        → slice_get table ty ≡ Some d → has_hooks table ty ≡ true → is_routine d hook ≡ false
        → Does_hook (known_in table) hook ty d (lines_of table hook ty d)) where
      -- what may be called, in chains of so many and at such a pace
      abbrev May_call : (chain pace : ℕ) → Hook → ℕ → Type 0
      May_call chain pace hook of =
          ((has_hooks table of ≡ true) × Promised chain pace hook of) ⊎ ((has_hooks table of ≡ false) × IsMade table z live procs fresh hook)

      -- one with lines, whose calls keep theirs
      pub by_lines : (chain pace : ℕ) → least_pace ≤ pace → (hook : Hook) (ty : ℕ) (d : TypeDef) → slice_get table ty ≡ Some d → has_hooks table ty ≡ true
          → rank_in table ty ≤ 64 → is_built (form_in (known_in table) ty) ≡ true → is_routine d hook ≡ false →
          Needs table ty hook d (λ other of. May_call chain pace other of)
          → Promised (suc chain) (pace + extra_of d + 1) hook ty
      by_lines chain pace steep hook ty d typed hooks few built runs needs low top h e w s to rest l from a b called leads_to leads_from fits =
          let whole = lines_of table hook ty d in
          let found = there hook ty d typed hooks few in
          let p = found.2 ∙ ap (λ code. moved found.0 (proc_with (hook_number first hook ty) code) ∷ found.1)
          (body_is table first ty hook whole (lines_some hook ty d runs)) in
          let fitting = all_fit table ty (λ other of. May_call chain pace other of) hook d typed needs runs in
          hook_comes table z live procs fresh first ty chain 0 pace steep routines hook whole found.0 found.1 (labels_of table ty hook d) (pace + extra_of d) p
          (λ lv l from w. let x = laws hook ty d typed hooks runs pace steep lv l from w in (x.0, x.1, x.2 built)) fitting.distinct low top h e w s to rest l
          from a b
          called leads_to leads_from fits fitting.fit (least_walk hook (form_in (known_in table) ty) built hooks l from w)

      -- ---- all of them, by ranks

      module _ (ordered : IsOrdered table (rank_in table))
          (texts : (chain : ℕ) (hook : Hook) (ty : ℕ) → slice_get table ty ≡ Some D.Text → has_hooks table ty ≡ true → rank_in table ty ≤ 64
          → is_routine D.Text hook ≡ true → Promised (suc chain) 32 hook ty) where
        abbrev rank : ℕ → ℕ
        rank ty = rank_in table ty

        abbrev Built : ℕ → Type 0
        Built ty = is_built (form_in (known_in table) ty) ≡ true

        abbrev All_below : ℕ → Type 0
        All_below n = (hook : Hook) (ty : ℕ) (d : TypeDef) → slice_get table ty ≡ Some d → has_hooks table ty ≡ true → rank ty ≤ 64 → Built ty
            → chain_of hook (rank ty) ≤ n
            → Promised n (pace_at hook (rank ty)) hook ty

        made_of : (hook : Hook) (p : ℕ) → is_needed hook (has_hooks table p) ≡ true → has_hooks table p ≡ false → IsMade table z live procs fresh hook
        made_of Copies p needed none = tt
        made_of Assigns p needed none = tt
        made_of Sinks p needed none = tt
        made_of Ends p needed none = absurd (false≢true (sym none ∙ needed))

        -- the pace of what a hook calls
        abbrev inner_pace : Hook → (ty : ℕ) → TypeDef → ℕ
        inner_pace hook ty d = pace_at hook (rank ty) - (extra_of d + 1)

        few_more : (d : TypeDef) → extra_of d ≤ 2
        few_more D.Text = omega arith
        few_more (D.Seq el) = omega arith
        few_more D.Int = omega arith
        few_more D.Bool = omega arith
        few_more D.Char = omega arith
        few_more (D.Param m) = omega arith
        few_more (D.Enum name place all) = omega arith
        few_more (D.Array m el) = omega arith
        few_more (D.Tuple names ps) = omega arith
        few_more (D.Object name place of fields own ps) = omega arith
        few_more (D.Distinct name place base) = omega arith
        few_more (D.Ref name base) = omega arith
        few_more (D.Exception name place parent) = omega arith

        least_at : (hook : Hook) (r : ℕ) → 32 + 3 * r ≤ pace_at hook r
        least_at Copies r = omega arith
        least_at Assigns r = omega arith
        least_at Sinks r = omega arith
        least_at Ends r = omega arith

        -- a level less is a pace of three less
        part_pace : (hook : Hook) (p r : ℕ) → p < r → pace_at hook p + 3 ≤ pace_at hook r
        part_pace Copies p r less = omega (arith, less)
        part_pace Assigns p r less = omega (arith, less)
        part_pace Sinks p r less = omega (arith, less)
        part_pace Ends p r less = omega (arith, less)

        inner_steep : (hook : Hook) (ty : ℕ) (d : TypeDef) → least_pace ≤ inner_pace hook ty d
        inner_steep hook ty d =
            let s = ordered.some ty in let f = few_more d in let l = least_at hook (rank ty) in omega (arith, s, f, l)

        whole_pace : (hook : Hook) (ty : ℕ) (d : TypeDef) → inner_pace hook ty d + extra_of d + 1 ≤ pace_at hook (rank ty)
        whole_pace hook ty d = let s = ordered.some ty in let f = few_more d in let l = least_at hook (rank ty) in omega (arith, s, f, l)

        needs : (n : ℕ) → All_below n → (ty : ℕ) (hook : Hook) (d : TypeDef) → slice_get table ty ≡ Some d → has_hooks table ty ≡ true → rank ty ≤ 64
            → Built ty → chain_of hook (rank ty) ≤ suc n → Needs table ty hook d (λ other of. May_call n (inner_pace hook ty d) other of)
        needs n below ty hook d at hooks few built le =
            needs_of table (rank_in table) ordered (λ other of. May_call n (inner_pace hook ty d) other of) ty hook d at hooks
            (λ p e of at_of is less.
            inl (
              is,
              kept_longer hook p n n (inner_pace hook ty d) (pace_at hook (rank p)) (le_refl n)
                  (let s = part_pace hook (rank p) (rank ty) less in let f = few_more d in omega (arith, s, f))
                  (below hook p e at_of is (omega (arith, less, few)) (ordered.built ty p d at of built) (part_chain n hook (rank p) (rank ty) less le)),
            ))
            (λ other none less slower.
            inl (
              hooks,
              kept_longer other ty n n (inner_pace hook ty d) (pace_at other (rank ty)) (le_refl n) (omega (arith, none, slower))
                  (below other ty d at hooks few built (omega (arith, less, le))),
            ))
            (λ p none needed. inr (none, made_of hook p needed none))

        pub all_kept : (n : ℕ) → All_below n
        all_kept zero hook ty d typed hooks few built le = absurd (let s = some_chain hook (rank ty) in omega (arith, s, le))
        all_kept (suc n) hook ty d typed hooks few built le = by d typed (is_routine d hook) refl (all_kept n)
          where
            by : (e : TypeDef) → slice_get table ty ≡ Some e → (routine : Bool) → is_routine e hook ≡ routine → All_below n
                → Promised (suc n) (pace_at hook (rank ty)) hook ty
            by e at false is below =
                kept_longer hook ty (suc n) (suc n) (pace_at hook (rank ty)) (inner_pace hook ty e + extra_of e + 1) (le_refl (suc n)) (whole_pace hook ty e)
                (by_lines n (inner_pace hook ty e) (inner_steep hook ty e) hook ty e at hooks few built is (needs n below ty hook e at hooks few built le))
            by D.Text at true is below =
                kept_longer hook ty (suc n) (suc n) (pace_at hook (rank ty)) 32 (le_refl (suc n)) (let l = least_at hook (rank ty) in omega (arith, l))
                (texts n hook ty at hooks few is)
            by D.Int at true is below = absurd (false≢true is)
            by D.Bool at true is below = absurd (false≢true is)
            by D.Char at true is below = absurd (false≢true is)
            by (D.Seq el) at true is below = absurd (false≢true is)
            by (D.Param m) at true is below = absurd (false≢true is)
            by (D.Enum name place all) at true is below = absurd (false≢true is)
            by (D.Array m el) at true is below = absurd (false≢true is)
            by (D.Tuple names ps) at true is below = absurd (false≢true is)
            by (D.Object name place of fields own ps) at true is below = absurd (false≢true is)
            by (D.Distinct name place base) at true is below = absurd (false≢true is)
            by (D.Ref name base) at true is below = absurd (false≢true is)
            by (D.Exception name place parent) at true is below = absurd (false≢true is)
