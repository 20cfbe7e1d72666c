-- The procedures of hooks are found by their numbers.
use Rattle.std.proofs.Common.{◌≡◌, ◌≢◌, ℕ, zero, suc, ◌+◌, ◌≤◌, Bool, true, false, List, [], ◌∷◌, ◌++◌, Some, refl, sym, ap, subst, ◌∙◌, arith}
use Rattle.std.specs.Prelude.{slice_get, if◌then◌else◌, ◌==◌, ◌||◌, ◌&&◌, not}
use Rattle.std.proofs.lemmas.Bool.{false≢true, cond-true, cond-false, eq-eqb, ne_eqb, and_parts, and_from, le-leb}
use Rattle.nim_types.specs.declared.types.TypeDef.{TypeDef}
use Rattle.nim_types.specs.declared.types.TypeDef.TheVariants as D
use Rattle.word_code.specs.declared.word.WordProc.{WordProc}
use Rattle.word_code.specs.Joined.{moved, all_moved, IsFree, AreApart}
use Rattle.word_code.specs.Words.{from_proc, is_proc, has_number, are_procs}
use Rattle.word_code.proofs.ForCallers.{found_first, found_last}
use Rattle.hook_lifting.specs.declared.lifted.Hook.{Hook}
use Rattle.hook_lifting.specs.declared.lifted.Hook.TheVariants.{Copies, Assigns, Sinks, Ends}
use Rattle.hook_lifting.specs.declared.lifted.Lifted.{Lifted}
use Rattle.hook_lifting.specs.declared.lifted.Cut.{Cut}
use Rattle.hook_lifting.specs.Lifted.{has_hooks, is_lifted, is_shallow, lines_of, all_hooks, each_from, hooks_of, of_entry, lifted, cut_if, cut_entry, cuts}
use Rattle.hook_lifting.specs.Lifted.{cut_lines}
use Rattle.hook_code.specs.HookCode.{hook_index, hook_number, cut_number, hook_proc, cut_proc, hook_procs, cut_procs, procs_in}
use Rattle.hook_code.specs.Kept.{IsAmong, AreThere, CutsAreThere, rank_in}
use Rattle.hook_code.proofs.Known.{none_some, same_some}

-- ---- among procedures

found_here : (p : WordProc) (ps : List WordProc) → from_proc p.number (p ∷ ps) ≡ p ∷ ps
found_here p ps = cond-true (p.number == p.number) (p ∷ ps) (from_proc p.number ps) (eq-eqb p.number p.number refl)

found_past : (n : ℕ) (p : WordProc) (ps : List WordProc) → p.number ≢ n → from_proc n (p ∷ ps) ≡ from_proc n ps
found_past n p ps away = cond-false (p.number == n) (p ∷ ps) (from_proc n ps) (ne_eqb p.number n away)

pub free_both : (n : ℕ) (ps qs : List WordProc) → IsFree n ps → IsFree n qs → IsFree n (ps ++ qs)
free_both n [] qs h i = i
free_both n (p ∷ ps) qs h i = (h.0, free_both n ps qs h.1 i)

pub apart_left : (ps qs rs : List WordProc) → AreApart ps rs → AreApart qs rs → AreApart (ps ++ qs) rs
apart_left [] qs rs h i = i
apart_left (p ∷ ps) qs rs h i = (h.0, apart_left ps qs rs h.1 i)

pub none_there : (n : ℕ) (ps : List WordProc) → IsFree n ps → has_number n ps ≡ false
none_there n [] free = refl
none_there n (p ∷ ps) free = ap (λ b. b || has_number n ps) (ne_eqb p.number n free.0) ∙ none_there n ps free.1

none_of_both : (n : ℕ) (ps qs : List WordProc) → has_number n ps ≡ false → has_number n qs ≡ false → has_number n (ps ++ qs) ≡ false
none_of_both n [] qs h i = i
none_of_both n (p ∷ ps) qs h i = by (p.number == n) h (λ rest. none_of_both n ps qs rest i)
  where
    by : (b : Bool) → (b || has_number n ps) ≡ false → (has_number n ps ≡ false → has_number n (ps ++ qs) ≡ false) → (b || has_number n (ps ++ qs)) ≡ false
    by true e go = absurd (false≢true (sym e))
    by false e go = go e

is_false : (b : Bool) → not b ≡ true → b ≡ false
is_false true e = absurd (false≢true e)
is_false false e = refl

pub both_procs : (ps qs : List WordProc) → AreApart ps qs → are_procs ps ≡ true → are_procs qs ≡ true → are_procs (ps ++ qs) ≡ true
both_procs [] qs apart h i = i
both_procs (p ∷ ps) qs apart h i =
    let a = and_parts (is_proc p) (not (has_number p.number ps) && are_procs ps) h in
    let b = and_parts (not (has_number p.number ps)) (are_procs ps) a.1 in
    and_from (is_proc p) _ a.0 (and_from (not (has_number p.number (ps ++ qs))) (are_procs (ps ++ qs))
    (ap not (none_of_both p.number ps qs (is_false (has_number p.number ps) b.0) (none_there p.number qs apart.0))) (both_procs ps qs apart.1 b.1 i))

found_moved : (shift n : ℕ) (ps : List WordProc) → from_proc n (all_moved shift ps) ≡ all_moved shift (from_proc n ps)
found_moved shift n [] = refl
found_moved shift n (p ∷ ps) = by (p.number == n) (found_moved shift n ps)
  where
    by : (b : Bool) → from_proc n (all_moved shift ps) ≡ all_moved shift (from_proc n ps)
        → (if b then moved shift p ∷ all_moved shift ps else from_proc n (all_moved shift ps)) ≡ all_moved shift (if b then p ∷ ps else from_proc n ps)
    by true e = refl
    by false e = e

-- ---- numbers of hooks

pub few_hooks : (hook : Hook) → hook_index hook ≤ 3
few_hooks Copies = omega arith
few_hooks Assigns = omega arith
few_hooks Sinks = omega arith
few_hooks Ends = omega arith

module _ (first : ℕ) where
  -- of another type
  pub other_type : (hook other : Hook) (ty of : ℕ) → ty ≢ of → hook_number first hook ty ≢ hook_number first other of
  other_type hook other ty of away e = let a = few_hooks hook in let b = few_hooks other in away (omega (arith, a, b, e))

  pub no_cut : (hook : Hook) (ty of : ℕ) → hook_number first hook ty ≢ cut_number first of
  no_cut hook ty of e = let a = few_hooks hook in omega (arith, a, e)

  pub other_cut : (ty of : ℕ) → ty ≢ of → cut_number first ty ≢ cut_number first of
  other_cut ty of away e = away (omega (arith, e))

module _ (table : List TypeDef) (first : ℕ) where
  abbrev procs_of : List Lifted → List WordProc
  procs_of hs = hook_procs table first hs

  procs_both : (hs gs : List Lifted) → procs_of (hs ++ gs) ≡ procs_of hs ++ procs_of gs
  procs_both [] gs = refl
  procs_both (h ∷ hs) gs = ap (λ ps. hook_proc table first h ∷ ps) (procs_both hs gs)

  cuts_both : (cs ds : List Cut) → cut_procs table first (cs ++ ds) ≡ cut_procs table first cs ++ cut_procs table first ds
  cuts_both [] ds = refl
  cuts_both (c ∷ cs) ds = ap (λ ps. cut_proc table first c ∷ ps) (cuts_both cs ds)

  abbrev one : (ty : ℕ) → TypeDef → Hook → WordProc
  one ty d hook = hook_proc table first (record { ty = ty; hook = hook; lines = lines_of table hook ty d })

  abbrev pub four : (ty : ℕ) → TypeDef → List WordProc
  four ty d = one ty d Copies ∷ one ty d Assigns ∷ one ty d Sinks ∷ one ty d Ends ∷ []

  -- those of an entry
  abbrev pub those : (ty : ℕ) → TypeDef → List WordProc
  those ty d = procs_of (of_entry table ty d)

  pub four_free : (n ty : ℕ) (d : TypeDef) → ((hook : Hook) → hook_number first hook ty ≢ n) → IsFree n (four ty d)
  four_free n ty d away = (away Copies, (away Assigns, (away Sinks, (away Ends, tt))))

  entry_free : (n ty : ℕ) (d : TypeDef) → ((hook : Hook) → hook_number first hook ty ≢ n) → IsFree n (those ty d)
  entry_free n ty d away = by (is_lifted table ty)
    where
      by : (b : Bool) → IsFree n (procs_of (if b then hooks_of table ty d all_hooks else []))
      by true = four_free n ty d away
      by false = tt

  abbrev pub from_entry : List TypeDef → (ty : ℕ) → List WordProc
  from_entry ds ty = procs_of (each_from (λ ty d. of_entry table ty d) ds ty)

  pub from_both : (d : TypeDef) (ds : List TypeDef) (ty : ℕ) → from_entry (d ∷ ds) ty ≡ those ty d ++ from_entry ds (suc ty)
  from_both d ds ty = procs_both (of_entry table ty d) (each_from (λ ty d. of_entry table ty d) ds (suc ty))

  pub hooks_free : (n : ℕ) (ds : List TypeDef) (ty : ℕ) → ((hook : Hook) (of : ℕ) → ty ≤ of → hook_number first hook of ≢ n) → IsFree n (from_entry ds ty)
  hooks_free n [] ty away = tt
  hooks_free n (d ∷ ds) ty away =
      subst (λ ps. IsFree n ps) (sym (from_both d ds ty))
      (free_both n (those ty d) (from_entry ds (suc ty)) (entry_free n ty d (λ hook. away hook ty (omega arith)))
      (hooks_free n ds (suc ty) (λ hook of le. away hook of (omega (arith, le)))))

  found_of : (hook : Hook) (ty : ℕ) (d : TypeDef) (k : List WordProc) → (others : List WordProc)
      × (from_proc (hook_number first hook ty) (four ty d ++ k) ≡ one ty d hook ∷ others)
  found_of Copies ty d k = (_, found_here (one ty d Copies) _)
  found_of Assigns ty d k = (
    _,
    found_past (hook_number first Assigns ty) (one ty d Copies) _ (λ e. omega (arith, e)) ∙ found_here (one ty d Assigns) _,
  )
  found_of Sinks ty d k = (
    _,
    found_past (hook_number first Sinks ty) (one ty d Copies) _ (λ e. omega (arith, e))
        ∙ (found_past (hook_number first Sinks ty) (one ty d Assigns) _ (λ e. omega (arith, e)) ∙ found_here (one ty d Sinks) _),
  )
  found_of Ends ty d k = (
    _,
    found_past (hook_number first Ends ty) (one ty d Copies) _ (λ e. omega (arith, e))
        ∙ (found_past (hook_number first Ends ty) (one ty d Assigns) _ (λ e. omega (arith, e))
        ∙ (found_past (hook_number first Ends ty) (one ty d Sinks) _ (λ e. omega (arith, e)) ∙ found_here (one ty d Ends) _)),
  )

  abbrev IsFound : (hook : Hook) (ty : ℕ) → TypeDef → List WordProc → Type 0
  IsFound hook ty d procs = (others : List WordProc) × (from_proc (hook_number first hook ty) procs ≡ one ty d hook ∷ others)

  found_from : (hook : Hook) (ds : List TypeDef) (ty j : ℕ) (d : TypeDef) → slice_get ds j ≡ Some d → is_lifted table (ty + j) ≡ true
      → IsFound hook (ty + j) d (from_entry ds ty)
  found_from hook [] ty j d at hooks = absurd (none_some at)
  found_from hook (e ∷ ds) ty zero d at hooks =
      let same : ty ≡ ty + 0 = omega arith in
      let here : is_lifted table ty ≡ true = subst (λ t. is_lifted table t ≡ true) (sym same) hooks in
      subst (λ t. IsFound hook t d (from_entry (e ∷ ds) ty)) same (subst (λ i. IsFound hook ty i (from_entry (e ∷ ds) ty)) (same_some e d at)
      (subst (λ ps. IsFound hook ty e ps) (sym (from_both e ds ty))
      (subst (λ b. IsFound hook ty e (procs_of (if b then hooks_of table ty e all_hooks else []) ++ from_entry ds (suc ty))) (sym here)
      (found_of hook ty e (from_entry ds (suc ty))))))
  found_from hook (e ∷ ds) ty (suc j) d at hooks =
      let same : suc ty + j ≡ ty + suc j = omega arith in
      let later = found_from hook ds (suc ty) j d at (subst (λ t. is_lifted table t ≡ true) (sym same) hooks) in
      subst (λ ps. IsFound hook (ty + suc j) d ps) (sym (from_both e ds ty)) (subst (λ t. IsFound hook t d (those ty e ++ from_entry ds (suc ty))) same (
        later.0,
        found_last (hook_number first hook (suc ty + j)) (those ty e) (from_entry ds (suc ty))
            (entry_free (hook_number first hook (suc ty + j)) ty e (λ other. other_type first other hook ty (suc ty + j) (λ e. omega (arith, e)))) ∙ later.1,
      ))

  -- ---- what makes sequences shorter

  abbrev pub cut_of : (ty of : ℕ) → WordProc
  cut_of ty of = cut_proc table first (record { ty = ty; lines = cut_lines of })

  abbrev pub cuts_of : (ty : ℕ) → TypeDef → List WordProc
  cuts_of ty d = cut_procs table first (cut_entry table ty d)

  abbrev pub cuts_from : List TypeDef → (ty : ℕ) → List WordProc
  cuts_from ds ty = cut_procs table first (each_from (λ ty d. cut_entry table ty d) ds ty)

  pub cuts_from_both : (d : TypeDef) (ds : List TypeDef) (ty : ℕ) → cuts_from (d ∷ ds) ty ≡ cuts_of ty d ++ cuts_from ds (suc ty)
  cuts_from_both d ds ty = cuts_both (cut_entry table ty d) (each_from (λ ty d. cut_entry table ty d) ds (suc ty))

  cut_free : (n ty : ℕ) (d : TypeDef) → cut_number first ty ≢ n → IsFree n (cuts_of ty d)
  cut_free n ty D.Int away = tt
  cut_free n ty D.Bool away = tt
  cut_free n ty D.Char away = tt
  cut_free n ty D.Text away = tt
  cut_free n ty (D.Param m) away = tt
  cut_free n ty (D.Enum name place all) away = tt
  cut_free n ty (D.Array m el) away = tt
  cut_free n ty (D.Tuple names ps) away = tt
  cut_free n ty (D.Object name place of fields own ps) away = tt
  cut_free n ty (D.Distinct name place base) away = tt
  cut_free n ty (D.Ref name base) away = tt
  cut_free n ty (D.Exception name place parent) away = tt
  cut_free n ty (D.Seq el) away = by (has_hooks table el && is_shallow table ty)
    where
      by : (b : Bool) → IsFree n (cut_procs table first (cut_if b ty el))
      by true = (away, tt)
      by false = tt

  pub cuts_free : (n : ℕ) (ds : List TypeDef) (ty : ℕ) → ((of : ℕ) → ty ≤ of → cut_number first of ≢ n) → IsFree n (cuts_from ds ty)
  cuts_free n [] ty away = tt
  cuts_free n (d ∷ ds) ty away =
      subst (λ ps. IsFree n ps) (sym (cuts_from_both d ds ty))
      (free_both n (cuts_of ty d) (cuts_from ds (suc ty)) (cut_free n ty d (away ty (omega arith)))
      (cuts_free n ds (suc ty) (λ of le. away of (omega (arith, le)))))

  abbrev IsCutFound : (ty el : ℕ) → List WordProc → Type 0
  IsCutFound ty el procs = (others : List WordProc) × (from_proc (cut_number first ty) procs ≡ cut_of ty el ∷ others)

  cut_found : (ds : List TypeDef) (ty j el : ℕ) → slice_get ds j ≡ Some (D.Seq el) → (has_hooks table el && is_shallow table (ty + j)) ≡ true
      → IsCutFound (ty + j) el (cuts_from ds ty)
  cut_found [] ty j el at hooks = absurd (none_some at)
  cut_found (e ∷ ds) ty zero el at hooks =
      let same : ty ≡ ty + 0 = omega arith in
      subst (λ t. IsCutFound t el (cuts_from (e ∷ ds) ty)) same
      (subst (λ i. IsCutFound ty el (cuts_from (i ∷ ds) ty)) (sym (same_some e (D.Seq el) at))
      (subst (λ ps. IsCutFound ty el ps) (sym (cuts_from_both (D.Seq el) ds ty))
      (subst (λ b. IsCutFound ty el (cut_procs table first (cut_if b ty el) ++ cuts_from ds (suc ty)))
      (sym (subst (λ t. (has_hooks table el && is_shallow table t) ≡ true) (sym same) hooks))
      (_, found_here (cut_of ty el) (cuts_from ds (suc ty))))))
  cut_found (e ∷ ds) ty (suc j) el at hooks =
      let same : suc ty + j ≡ ty + suc j = omega arith in
      let later = cut_found ds (suc ty) j el at (subst (λ t. (has_hooks table el && is_shallow table t) ≡ true) (sym same) hooks) in
      subst (λ ps. IsCutFound (ty + suc j) el ps) (sym (cuts_from_both e ds ty)) (subst (λ t. IsCutFound t el (cuts_of ty e ++ cuts_from ds (suc ty))) same (
        later.0,
        found_last (cut_number first (suc ty + j)) (cuts_of ty e) (cuts_from ds (suc ty))
            (cut_free (cut_number first (suc ty + j)) ty e (other_cut first ty (suc ty + j) (λ e. omega (arith, e)))) ∙ later.1,
      ))

  -- ---- all of them

  pub hook_found : (hook : Hook) (ty : ℕ) (d : TypeDef) → slice_get table ty ≡ Some d → is_lifted table ty ≡ true → IsFound hook ty d (procs_in table first)
  hook_found hook ty d at hooks =
      let same : 0 + ty ≡ ty = omega arith in
      let f = subst (λ t. IsFound hook t d (from_entry table 0)) same
      (found_from hook table 0 ty d at (subst (λ t. is_lifted table t ≡ true) (sym same) hooks)) in
      (_, found_first (hook_number first hook ty) (procs_of (lifted table)) (cut_procs table first (cuts table)) (one ty d hook) f.0 f.1)

  pub one_cut_found : (ty el : ℕ) → slice_get table ty ≡ Some (D.Seq el) → (has_hooks table el && is_shallow table ty) ≡ true
      → IsCutFound ty el (procs_in table first)
  one_cut_found ty el at hooks =
      let same : 0 + ty ≡ ty = omega arith in
      let f = subst (λ t. IsCutFound t el (cuts_from table 0)) same
      (cut_found table 0 ty el at (subst (λ t. (has_hooks table el && is_shallow table t) ≡ true) (sym same) hooks)) in (
        f.0,
        found_last (cut_number first ty) (procs_of (lifted table)) (cut_procs table first (cuts table))
            (hooks_free (cut_number first ty) table 0 (λ hook of le. no_cut first hook of ty)) ∙ f.1,
      )

  -- among others none of which has their numbers, their data moved
  module _ (shift : ℕ) (before after : List WordProc) (apart : (n : ℕ) → first ≤ n → IsFree n before) where
    abbrev whole : List WordProc
    whole = before ++ (all_moved shift (procs_in table first) ++ after)

    among : (p : WordProc) (others : List WordProc) → first ≤ p.number → from_proc p.number (procs_in table first) ≡ p ∷ others → IsAmong p whole
    among p others le found = (
      shift,
      _,
      found_last p.number before (all_moved shift (procs_in table first) ++ after) (apart p.number le)
          ∙ found_first p.number (all_moved shift (procs_in table first)) after (moved shift p) (all_moved shift others)
          (moved_found p.number (procs_in table first) found),
    )
      where
        moved_found : (n : ℕ) (ps : List WordProc) → from_proc n ps ≡ p ∷ others → from_proc n (all_moved shift ps) ≡ moved shift p ∷ all_moved shift others
        moved_found n ps e = found_moved shift n ps ∙ ap (λ qs. all_moved shift qs) e

    pub are_there : AreThere table first whole
    are_there hook ty d at hooks few =
        let f = hook_found hook ty d at (and_from (has_hooks table ty) (is_shallow table ty) hooks (le-leb (rank_in table ty) 64 few)) in
        among (one ty d hook) f.0 (omega arith) f.1

    pub cuts_there : CutsAreThere table first whole
    cuts_there ty el at hooks few =
        let f = one_cut_found ty el at (and_from (has_hooks table el) (is_shallow table ty) hooks (le-leb (rank_in table ty) 64 few)) in
        among (cut_of ty el) f.0 (omega arith) f.1
