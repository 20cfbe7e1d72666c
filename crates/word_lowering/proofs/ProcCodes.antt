-- Procedures of block code that may be lowered: each is tested, and has its word code under its number.
use Rattle.std.proofs.Common.{◌≡◌, ◌⊎◌, inl, inr, ℕ, zero, suc, ◌+◌, ◌≤◌, List, [], ◌∷◌, ◌++◌, append_assoc, append-nil}
use Rattle.std.proofs.Common.{length, map}
use Rattle.std.proofs.Common.{Some, None, Bool, true, false, not, ◌&&◌}
use Rattle.std.proofs.Common.{refl, sym, ap, subst, ◌∙◌, arith, if◌then◌else◌, nat_le}
use Rattle.std.specs.Prelude.{slice_get}
use Rattle.std.specs.Set.{is_member}
use Rattle.std.proofs.lemmas.Bool.{and_parts, eq-eqb, ne_eqb, leb-true, true≢false, false≢true}
use Rattle.nim_types.specs.declared.types.TypeDef.{TypeDef}
use Rattle.nim_types.specs.Types.{same_text, Ty}
use Rattle.nim_types.specs.Table.{IsTable, facts_in, type_at, types_in}
use Rattle.word_code.specs.declared.word.TheConstants.{SPARE_ROOM}
use Rattle.flat_code.specs.declared.line.Line.{Line}
use Rattle.flat_code.specs.declared.line.Piece.{Piece}
use Rattle.flat_code.specs.declared.place.PlaceKind.{PlaceKind}
use Rattle.flat_code.specs.declared.place.PlaceKind.TheVariants as K
use Rattle.flat_code.specs.declared.place.FlatPlace.{FlatPlace}
use Rattle.flat_code.specs.declared.block.BlockLine.{BlockLine}
use Rattle.flat_code.specs.declared.code.CodeProc.{CodeProc}
use Rattle.flat_code.specs.declared.code.Code.{Code}
use Rattle.word_code.specs.declared.word.WordProc.{WordProc}
use Rattle.flat_code.specs.Scene.{known_in}
use Rattle.flat_code.specs.Codes.{block_plain, proc_of}
use Rattle.flat_code.specs.Sizes.{lines_texts, code_texts}
use Rattle.flat_code.specs.Running.{last_of, before_last}
use Rattle.word_code.specs.Words.{from_proc}
use Rattle.flat_code.specs.Fits.{has_lines_for, taken_by, given_by, Signature, signature_of, signatures, proc_fits, Taken, and_param, place_type, type_by_kind}
use Rattle.flat_code.specs.Fits.{each_fits, start_places as start_places_in, is_declared}
use Rattle.word_lowering.specs.declared.homes.Alias.TheVariants.{Own}
use Rattle.word_lowering.specs.declared.homes.Home.{Home}
use Rattle.word_lowering.specs.declared.homes.Home.TheVariants.{Placed}
use Rattle.word_lowering.specs.declared.homes.Housed.{Housed}
use Rattle.word_lowering.specs.declared.homes.Free.{Free}
use Rattle.word_lowering.specs.declared.homes.Layout.{Layout}
use Rattle.word_lowering.specs.declared.texts.TheConstants.{FIXED_BYTES}
use Rattle.word_lowering.specs.declared.may_lower.TheConstants.{MOST_ROOM}
use Rattle.word_lowering.specs.Layouts.{is_empty, is_static, place_kept, place_bytes, place_alias, home_at, free_behind, free_by, free_at, layout_of, lent_by}
use Rattle.word_lowering.specs.Layouts.{address_by, holds_address}
use Rattle.word_lowering.specs.Layouts.{layouts, housed, behind}
use Rattle.word_lowering.specs.Layouts.{all_housed, behind_all, is_param, kept_in, params_in}
use Rattle.word_lowering.proofs.WaiterHomes.{waiters_few, waiters_from}
use Rattle.word_lowering.specs.Layouts.{found as found_in}
use Rattle.hook_code.specs.HookCode.{procs_in}
use Rattle.word_code.proofs.ForCallers.{found_first}
use Rattle.word_lowering.specs.LineCode.{all_labels, first_hook, labels_in, Around, no_layout, or_none, proc_number}
use Rattle.word_lowering.specs.Texts.{texts_of, texts_in}
use Rattle.word_lowering.proofs.DistinctTexts.{has_behind, has_before}
use Rattle.word_lowering.specs.Lowered as code
use Rattle.word_lowering.specs.Lowered.{no_proc, all_layouts, start_layout, start_around, lowered}
use Rattle.word_lowering.specs.Lowers.{IsFitting, AreSilent}
use Rattle.word_lowering.specs.MayLower.{no_params, params_lead, all_known, hook_may, lines_may, labels_once, labels_may, and_placed}
use Rattle.word_lowering.specs.MayLower.{placed_bytes}
use Rattle.word_lowering.specs.MayLower.{places_may, sizes_may, proc_may, procs_may}
use Rattle.word_lowering.specs.MayLower.{may_lower}
use Rattle.word_lowering.specs.Stored.{HaveForms, is_hooked}
use Rattle.word_lowering.proofs.Options.{none_some, some_same}
use Rattle.word_lowering.proofs.NamedProcs.{fits_by}
use Rattle.word_lowering.proofs.FirstPlaces.{ParamsAre, Orderly}
use Rattle.word_lowering.proofs.Callees.{Callee}
use Rattle.word_lowering.proofs.ShapeFacts.{never}
use Rattle.word_lowering.proofs.LinkedItems.{CodeHas, HaveConstant}
use Rattle.word_lowering.proofs.Sites.{Body, around, Among, sigs, globals_of, type_of, IsBody}
use Rattle.word_lowering.proofs.LayoutBounds.{params_below, kept_within}
use Rattle.word_lowering.proofs.PlaceFacts.{one_found, own_home, declared_own}
use Rattle.word_lowering.proofs.PlacesInOrder.{orderly}
use Rattle.word_lowering.proofs.Bodies.{IsTested, body_at, is_body}
use Rattle.word_lowering.specs.declared.homes.TheConstants.{OWN_FROM}
use Rattle.word_lowering.specs.Aliases.{standing, is_among}
use Rattle.flat_code.specs.Waits.{AllWaitOnce, AllWaitRight, all_wait_right, wait_once}
use Rattle.nim_types.specs.Forms.{form_of, hooked}
use Rattle.nim_program.specs.declared.program.Mode.TheVariants.{Plain, Sink, Var}
use Rattle.word_lowering.proofs.TypeRules.{type_hooked}

-- ---- procedures by number

from_this : (p : WordProc) (procs : List WordProc) (n : ℕ) → p.number ≡ n → from_proc n (p ∷ procs) ≡ p ∷ procs
from_this p procs n e = ap (λ b. if b then p ∷ procs else from_proc n procs) (eq-eqb p.number n e)

from_other : (p : WordProc) (procs : List WordProc) (n : ℕ) → (p.number ≡ n → ⊥) → from_proc n (p ∷ procs) ≡ from_proc n procs
from_other p procs n e = ap (λ b. if b then p ∷ procs else from_proc n procs) (ne_eqb p.number n e)

from_if : (runs : Bool) (p : WordProc) (procs : List WordProc) (n : ℕ) → (p.number ≡ n → ⊥) → from_proc n (code.if_runs runs p procs)
    ≡ from_proc n procs
from_if true p procs n e = from_other p procs n e
from_if false p procs n e = refl

-- ---- parameters

param_declared : (kind : PlaceKind) → is_param kind ≡ true → is_declared kind ≡ true
param_declared (K.Param mode) h = refl
param_declared kind h = never h

abbrev IsPlaced : Home → Type 0
IsPlaced (Placed at) = Unit {0}
IsPlaced home = ⊥

abbrev byte_of : Home → ℕ
byte_of (Placed at) = at
byte_of home = 0

-- one that is placed ends before the rest
first_ends : (static kept : Bool) (bytes at rest : ℕ) (free : Free) → home_at static kept free ≡ Placed at
    → at + bytes ≤ free.byte + and_placed (home_at static kept free) bytes rest
first_ends true kept bytes at rest free e = absurd (subst IsPlaced (sym e) tt)
first_ends false true bytes at rest free e = absurd (subst IsPlaced (sym e) tt)
first_ends false false bytes at rest free e = let h : free.byte ≡ at = ap byte_of e in omega (arith, h)

next_ends : (static kept : Bool) (bytes rest last : ℕ) (free : Free) → last ≤ (free_behind static kept bytes free).byte + rest
    → last ≤ free.byte + and_placed (home_at static kept free) bytes rest
next_ends true kept bytes rest last free h = h
next_ends false true bytes rest last free h = h
next_ends false false bytes rest last free h = omega (arith, h)

module _ (table : List TypeDef) where
  add_param : (kind : PlaceKind) (h : Housed) → h.kind ≡ kind → (hooks stands : Bool) → h.lent ≡ lent_by kind hooks stands → (ty : Ty) → ty ≡ type_of table h
      → (is_param kind ≡ true → hooked (form_of (facts_in table) ty) ≡ hooks) → (hs : List Housed) (ts : List Taken)
      → ParamsAre table hs ts → ParamsAre table (if is_param kind then h ∷ hs else hs) (and_param (facts_in table) kind ty ts)
  add_param (K.Param Plain) h e hooks stands lent ty f same hs ts r =
      let address : holds_address h ≡ hooks = ap (address_by h.lent) e ∙ lent in
      ((same refl ∙ sym address, λ w a. lent ∙ (sym address ∙ a), f), r)
  add_param (K.Param Sink) h e hooks stands lent ty f same hs ts r =
      let none : holds_address h ≡ false = ap (address_by h.lent) e in
      ((sym none, λ w a. never (sym none ∙ a), f), r)
  add_param (K.Param Var) h e hooks stands lent ty f same hs ts r = ((sym (ap (address_by h.lent) e), λ w a. never (sym w), f), r)
  add_param kind h e hooks stands lent ty f same hs ts r = r

  module _ (start : Bool) (lines : List Line) where
    abbrev one : Free → FlatPlace → Housed
    one free p = housed table start lines free p

    abbrev next : Free → FlatPlace → Free
    next free p = behind table start lines free p

    abbrev params : Free → List FlatPlace → List Housed
    params free ps = params_in (all_housed table start lines free ps)

    none_in : (free : Free) (ps : List FlatPlace) (h : Housed) → no_params ps ≡ true → Among h (params free ps) → ⊥
    none_in free [] h e i = i
    none_in free (p ∷ ps) h e i =
        by (is_param p.kind) (and_parts (not (is_param p.kind)) (no_params ps) e).0 i
        (none_in (next free p) ps h (and_parts (not (is_param p.kind)) (no_params ps) e).1)
      where
        by : (b : Bool) → not b ≡ true → Among h (if b then one free p ∷ params (next free p) ps else params (next free p) ps)
            → (Among h (params (next free p) ps) → ⊥) → ⊥
        by true e i go = false≢true e
        by false e i go = go i

    -- a parameter has a home
    param_own : (p : FlatPlace) → is_param p.kind ≡ true → place_alias table start lines p ≡ Own
    param_own p e = declared_own p.kind p.number lines (param_declared p.kind e)

    module _ (is_table : IsTable table) (have : HaveForms table) where
      param_hooked : (kind : PlaceKind) (ty : ℕ) → is_param kind ≡ true
          → hooked (form_of (facts_in table) (type_by_kind kind (type_at (types_in table) ty))) ≡ is_hooked table ty
      param_hooked (K.Param mode) ty k = sym (type_hooked table is_table have ty)
      param_hooked kind ty k = never k

      -- as callers hand them on
      params_are : (free : Free) (ps : List FlatPlace) → ParamsAre table (params free ps) (taken_by (known_in table) ps)
      params_are free [] = tt
      params_are free (p ∷ ps) =
          add_param p.kind (one free p) refl (is_hooked table p.ty) (is_among p.number (standing lines)) refl (place_type (known_in table) p) refl
          (param_hooked p.kind p.ty) (params (next free p) ps) (taken_by (known_in table) ps) (params_are (next free p) ps)

    param_ends : (free : Free) (ps : List FlatPlace) → params_lead ps ≡ true → (h : Housed) (at : ℕ) → Among h (params free ps) → h.home ≡ Placed at
        → at + h.bytes ≤ free.byte + placed_bytes (params free ps)
    param_ends free [] l h at i f = absurd i
    param_ends free (p ∷ ps) l h at i f =
        by (is_param p.kind) refl l i (λ m j. param_ends (next free p) ps m h at j f)
      where
        rest : List Housed
        rest = params (next free p) ps

        static : Bool
        static = is_static start p.kind

        kept : Bool
        kept = place_kept table start lines p

        bytes : ℕ
        bytes = place_bytes table start lines p

        by : (b : Bool) → is_param p.kind ≡ b → (if b then params_lead ps else no_params ps) ≡ true
            → Among h (if b then one free p ∷ rest else rest)
            → (params_lead ps ≡ true → Among h rest → at + h.bytes ≤ (next free p).byte + placed_bytes rest)
            → at + h.bytes ≤ free.byte + placed_bytes (if b then one free p ∷ rest else rest)
        by true k l (inl s) go =
            let home = own_home table start lines free p (param_own p k) in
            subst (λ (z : Housed). at + z.bytes ≤ free.byte + placed_bytes (one free p ∷ rest)) s
            (subst (λ z. at + bytes ≤ free.byte + and_placed z bytes (placed_bytes rest)) (sym home)
            (first_ends static kept bytes at (placed_bytes rest) free (sym home ∙ ap (λ (z : Housed). z.home) s ∙ f)))
        by true k l (inr j) go =
            let own = param_own p k in
            subst (λ z. at + h.bytes ≤ free.byte + and_placed z bytes (placed_bytes rest)) (sym (own_home table start lines free p own))
            (next_ends static kept bytes (placed_bytes rest) (at + h.bytes) free
            (subst (λ a. at + h.bytes ≤ (free_by a free (free_behind static kept bytes free)).byte + placed_bytes rest) own (go l j)))
        by false k l i go = absurd (none_in (next free p) ps h l i)

among_params : (hs : List Housed) (h : Housed) → Among h (params_in hs) → Among h hs
among_params [] h i = i
among_params (k ∷ hs) h i = by (is_param k.kind) i (among_params hs h)
  where
    by : (b : Bool) → Among h (if b then k ∷ params_in hs else params_in hs) → (Among h (params_in hs) → Among h hs) → (k ≡ h) ⊎ Among h hs
    by true (inl s) go = inl s
    by true (inr j) go = inr (go j)
    by false i go = inr (go i)

param_kind : (hs : List Housed) (h : Housed) → Among h (params_in hs) → is_param h.kind ≡ true
param_kind [] h i = absurd i
param_kind (k ∷ hs) h i = by (is_param k.kind) refl i (param_kind hs h)
  where
    by : (b : Bool) → is_param k.kind ≡ b → Among h (if b then k ∷ params_in hs else params_in hs)
        → (Among h (params_in hs) → is_param h.kind ≡ true) → is_param h.kind ≡ true
    by true e (inl s) go = subst (λ (z : Housed). is_param z.kind ≡ true) s e
    by true e (inr j) go = go j
    by false e i go = go i

some_lines : (line : BlockLine) (lines : List BlockLine) → line ∷ lines ≡ [] → ⊥
some_lines line lines e = cc

no_places : (places : List FlatPlace) (lines : List BlockLine) → has_lines_for places lines ≡ true → lines ≡ [] → places ≡ []
no_places [] lines h e = refl
no_places (p ∷ ps) [] h e = absurd (false≢true h)
no_places (p ∷ ps) (line ∷ lines) h e = absurd (some_lines line lines e)

empty_is : (lines : List BlockLine) → not (is_empty lines) ≡ false → lines ≡ []
empty_is [] h = refl
empty_is (line ∷ lines) h = absurd (true≢false h)

-- ---- what tests say

module _ (table : List TypeDef) (blocks : Code BlockLine) where
  abbrev fits_one : CodeProc BlockLine → Bool
  fits_one p = proc_fits block_plain (known_in table) (sigs table blocks) (globals_of table blocks) p

  -- values wait where lines say, and a number of 32 bits counts labels
  record IsRight (p : CodeProc BlockLine) : Type 0 where
    rightly : all_wait_right block_plain (known_in table) p.places p.lines ≡ true
    alone : wait_once p.places ≡ true
    labels : labels_in (map block_plain p.lines) ≤ 4294967295

  abbrev AreRight : List (CodeProc BlockLine) → Type 0
  AreRight [] = Unit {0}
  AreRight (p ∷ ps) = IsRight p × AreRight ps

  are_right : (ps : List (CodeProc BlockLine)) → AllWaitRight block_plain (known_in table) ps → AllWaitOnce (map (λ (p : CodeProc BlockLine). p.places) ps)
      → all_labels ps ≤ 4294967295 → AreRight ps
  are_right [] right once few = tt
  are_right (p ∷ ps) right once few =
      (record { rightly = right.0; alone = once.0; labels = omega (arith, few) }, are_right ps right.1 once.1 (omega (arith, few)))

  one_tested : (start : Bool) (p : CodeProc BlockLine) → fits_one p ≡ true → proc_may table (layout_of table start FIXED_BYTES p) p ≡ true
      → labels_once (map block_plain p.lines) ≡ true → IsRight p → IsTested table blocks start p
  one_tested start p fit may once right =
      let own : Layout = layout_of table start FIXED_BYTES p in
      let a = and_parts _ _ (and_parts _ _ fit).1 in
      let places = and_parts (params_lead p.places && (all_known table own.all && hook_may p.hook))
      (lines_may table own.all (standing (map block_plain p.lines)) (map block_plain p.lines))
      (and_parts (places_may table own p) (sizes_may own) may).0 in
      let known = and_parts (params_lead p.places) (all_known table own.all && hook_may p.hook) places.0 in
      record {
        order = (and_parts _ _ (and_parts _ _ a.0).1).1;
        first = (and_parts _ _ (and_parts _ _ a.0).1).0;
        fits = a.1;
        known = (and_parts (all_known table own.all) (hook_may p.hook) known.1).0;
        rightly = right.rightly;
        alone = right.alone;
        may = places.1;
        once = once;
        labels = right.labels;
        room = (fits_by table own p may).room;
        handed = (fits_by table own p may).handed;
      }

  abbrev AllFit : List (CodeProc BlockLine) → Type 0
  AllFit ps = each_fits block_plain (known_in table) (sigs table blocks) (globals_of table blocks) ps ≡ true

  abbrev AllMay : List (CodeProc BlockLine) → Type 0
  AllMay ps = procs_may table (layouts table FIXED_BYTES ps) ps ≡ true

  abbrev AllOnce : List (CodeProc BlockLine) → Type 0
  AllOnce ps = labels_may ps ≡ true

  abbrev own_of : CodeProc BlockLine → Layout
  own_of p = layout_of table false FIXED_BYTES p

  record Called (x : Around) (ps : List (CodeProc BlockLine)) (index i : ℕ) (s : Signature) : Type 0 where
    proc : CodeProc BlockLine
    behind_it : List ℕ
    others : List ℕ
    texts : texts_in ps ≡ behind_it ++ (texts_of (map block_plain proc.lines) ++ others)
    among : (text : List ℕ) → is_member same_text (lines_texts (map block_plain proc.lines)) text ≡ true
        → is_member same_text (code_texts block_plain ps) text ≡ true
    constants : (pieces : List Piece) → HaveConstant (map block_plain proc.lines) pieces → CodeHas ps pieces
    sign : signature_of (known_in table) proc.places ≡ s
    block : slice_get (before_last (map (proc_of (known_in table)) ps)) i ≡ Some (proc_of (known_in table) proc)
    layout : slice_get (layouts table FIXED_BYTES ps) i ≡ Some (own_of proc)
    lines : has_lines_for proc.places proc.lines ≡ true
    silent : proc.lines ≡ [] → proc.hook ≡ None
    tested : IsTested table blocks false proc
    may : proc_may table (own_of proc) proc ≡ true
    found : not (is_empty proc.lines) ≡ true → (n : ℕ) → n ≡ index + i → (others : List WordProc)
        × (from_proc (proc_number n) (code.word_procs x index (layouts table FIXED_BYTES ps) ps)
        ≡ code.word_proc (code.with_own x (own_of proc) (length behind_it)) (proc_number n) proc ∷ others)

  call_at : (x : Around) (ps : List (CodeProc BlockLine)) (index i : ℕ) (s : Signature)
      → slice_get (signatures block_plain (known_in table) (before_last ps)) i ≡ Some s → AllFit ps → AllMay ps → AllOnce ps → AreSilent ps
      → AreRight ps → Called x ps index i s
  call_at x [] index i s h e m o n right = absurd (none_some s h)
  call_at x (p ∷ []) index i s h e m o n right = absurd (none_some s h)
  call_at x (p ∷ q ∷ ps) index zero s h e m o n right =
      let here = and_parts (fits_one p) _ e in
      let may = and_parts (proc_may table (own_of p) p) _ m in
      let once = and_parts (labels_once (map block_plain p.lines)) _ o in
      let literals : ℕ = length (texts_in (q ∷ ps)) in
      let rest : List WordProc = code.word_procs x (suc index) (layouts table FIXED_BYTES (q ∷ ps)) (q ∷ ps) in
      record {
        proc = p;
        behind_it = texts_in (q ∷ ps);
        others = [];
        texts = ap (λ z. texts_in (q ∷ ps) ++ z) (sym (append-nil (texts_of (map block_plain p.lines))));
        among = λ text i. has_before text (lines_texts (map block_plain p.lines)) (code_texts block_plain (q ∷ ps)) i;
        constants = λ pieces i. inl i;
        sign = some_same (signature_of (known_in table) p.places) s h;
        block = refl;
        layout = refl;
        lines = (and_parts _ _ here.0).0;
        silent = n.0;
        tested = one_tested false p here.0 may.0 once.0 right.0;
        may = may.0;
        found = λ some n same. (
          rest,
          let e : index ≡ n = omega (arith, same) in
              let one : ℕ → WordProc = λ (k : ℕ). code.word_proc (code.with_own x (own_of p) literals) (proc_number k) p in
              subst (λ k. from_proc (proc_number k) (code.if_runs (not (is_empty p.lines)) (one index) rest) ≡ one k ∷ rest) e
              (ap (λ b. from_proc (proc_number index) (code.if_runs b (one index) rest)) some ∙ from_this (one index) rest (proc_number index) refl),
        );
      }
  call_at x (p ∷ q ∷ ps) index (suc i) s h e m o n right =
      let here = and_parts (fits_one p) _ e in
      let may = and_parts (proc_may table (own_of p) p) _ m in
      let once = and_parts (labels_once (map block_plain p.lines)) _ o in
      let literals : ℕ = length (texts_in (q ∷ ps)) in
      let rest : List WordProc = code.word_procs x (suc index) (layouts table FIXED_BYTES (q ∷ ps)) (q ∷ ps) in
      let one : WordProc = code.word_proc (code.with_own x (own_of p) literals) (proc_number index) p in
      let r = call_at x (q ∷ ps) (suc index) i s h here.1 may.1 once.1 n.1 right.1 in
      record {
        proc = r.proc;
        behind_it = r.behind_it;
        others = r.others ++ texts_of (map block_plain p.lines);
        texts = ap (λ z. z ++ texts_of (map block_plain p.lines)) r.texts
            ∙ append_assoc r.behind_it (texts_of (map block_plain r.proc.lines) ++ r.others) (texts_of (map block_plain p.lines))
            ∙ ap (λ z. r.behind_it ++ z) (append_assoc (texts_of (map block_plain r.proc.lines)) r.others (texts_of (map block_plain p.lines)));
        among = λ text i. has_behind text (lines_texts (map block_plain p.lines)) (code_texts block_plain (q ∷ ps)) (r.among text i);
        constants = λ pieces i. inr (r.constants pieces i);
        sign = r.sign;
        block = r.block;
        layout = r.layout;
        lines = r.lines;
        silent = r.silent;
        tested = r.tested;
        may = r.may;
        found = λ some n same. let f = r.found some n (omega (arith, same)) in (
          f.0,
          from_if (not (is_empty p.lines)) one rest (proc_number n) (λ (z : proc_number index ≡ proc_number n). absurd (omega (arith, z, same))) ∙ f.1,
        );
      }

  -- the start code is the last one
  last_tested : (none p : CodeProc BlockLine) (ps : List (CodeProc BlockLine)) → AllFit (p ∷ ps) → AllMay (p ∷ ps) → AllOnce (p ∷ ps)
      → AreRight (p ∷ ps) → IsTested table blocks true (last_of none (p ∷ ps))
  last_tested none p [] e m o right =
      one_tested true p (and_parts (fits_one p) _ e).0 (and_parts (proc_may table (layout_of table true FIXED_BYTES p) p) _ m).0
      (and_parts (labels_once (map block_plain p.lines)) _ o).0 right.0
  last_tested none p (q ∷ ps) e m o right =
      last_tested p q ps (and_parts (fits_one p) _ e).1 (and_parts (proc_may table (own_of p) p) _ m).1
      (and_parts (labels_once (map block_plain p.lines)) _ o).1 right.1

  last_layout : (none : Layout) (other p : CodeProc BlockLine) (ps : List (CodeProc BlockLine))
      → last_of none (layouts table FIXED_BYTES (p ∷ ps)) ≡ layout_of table true FIXED_BYTES (last_of other (p ∷ ps))
  last_layout none other p [] = refl
  last_layout none other p (q ∷ ps) = last_layout (own_of p) p q ps

  last_places : (other p : CodeProc BlockLine) (ps : List (CodeProc BlockLine)) → start_places_in (p ∷ ps) ≡ (last_of other (p ∷ ps)).places
  last_places other p [] = refl
  last_places other p (q ∷ ps) = last_places p q ps

  -- its texts come last
  last_texts : (none p : CodeProc BlockLine) (ps : List (CodeProc BlockLine)) → (others : List ℕ)
      × (texts_in (p ∷ ps) ≡ texts_of (map block_plain (last_of none (p ∷ ps)).lines) ++ others)
  last_texts none p [] = ([], sym (append-nil (texts_of (map block_plain p.lines))))
  last_texts none p (q ∷ ps) =
      let r = last_texts p q ps in
      let own : List ℕ = texts_of (map block_plain p.lines) in
      (r.0 ++ own, ap (λ z. z ++ own) r.1 ∙ append_assoc (texts_of (map block_plain (last_of p (q ∷ ps)).lines)) r.0 own)

  last_among : (none p : CodeProc BlockLine) (ps : List (CodeProc BlockLine)) (text : List ℕ)
      → is_member same_text (lines_texts (map block_plain (last_of none (p ∷ ps)).lines)) text ≡ true
      → is_member same_text (code_texts block_plain (p ∷ ps)) text ≡ true
  last_among none p [] text i = has_before text (lines_texts (map block_plain p.lines)) [] i
  last_among none p (q ∷ ps) text i =
      has_behind text (lines_texts (map block_plain p.lines)) (code_texts block_plain (q ∷ ps)) (last_among p q ps text i)

  last_constants : (none p : CodeProc BlockLine) (ps : List (CodeProc BlockLine)) (pieces : List Piece)
      → HaveConstant (map block_plain (last_of none (p ∷ ps)).lines) pieces → CodeHas (p ∷ ps) pieces
  last_constants none p [] pieces i = inl i
  last_constants none p (q ∷ ps) pieces i = inr (last_constants p q ps pieces i)

  pub start_laid : (p : CodeProc BlockLine) (ps : List (CodeProc BlockLine)) → blocks.procs ≡ p ∷ ps
      → start_layout table blocks.procs ≡ layout_of table true FIXED_BYTES (last_of no_proc blocks.procs)
  start_laid p ps e =
      subst (λ qs. last_of no_layout (layouts table FIXED_BYTES qs) ≡ layout_of table true FIXED_BYTES (last_of no_proc qs)) (sym e)
      (last_layout no_layout no_proc p ps)

  pub start_places : (p : CodeProc BlockLine) (ps : List (CodeProc BlockLine)) → blocks.procs ≡ p ∷ ps
      → globals_of table blocks ≡ (last_of no_proc blocks.procs).places
  start_places p ps e = subst (λ qs. start_places_in qs ≡ (last_of no_proc qs).places) (sym e) (last_places no_proc p ps)

  -- ---- the whole

  module _ (is_table : IsTable table) (have : HaveForms table) (fitting : IsFitting table blocks) (may : may_lower table blocks ≡ true)
      (labels : all_labels blocks.procs ≤ 4294967295) where
    all_fits : AllFit blocks.procs
    all_fits = (and_parts _ _ fitting.fits).1

    all_right : AreRight blocks.procs
    all_right = are_right blocks.procs fitting.waits fitting.once labels

    all_mays : AllMay blocks.procs
    all_mays = (and_parts (procs_may table (all_layouts table blocks.procs) blocks.procs) _ may).0

    all_onces : AllOnce blocks.procs
    all_onces = (and_parts _ (labels_may blocks.procs) (and_parts _ _ (and_parts (procs_may table (all_layouts table blocks.procs) blocks.procs) _ may).1).1).1

    abbrev x : Around
    x = start_around table blocks.procs

    abbrev rest_procs : List WordProc
    rest_procs = code.word_procs x 0 (all_layouts table blocks.procs) blocks.procs

    -- the start code has a smaller number
    from_rest : (n : ℕ) → from_proc (proc_number n) (lowered table blocks).procs
        ≡ from_proc (proc_number n) (rest_procs ++ procs_in table (first_hook blocks.procs))
    from_rest n = from_other _ _ (proc_number n) (λ (z : 0 ≡ proc_number n). omega (arith, z))

    -- a procedure that may be called
    pub callee : AreSilent blocks.procs → (proc : ℕ) (s : Signature) → slice_get (sigs table blocks) proc ≡ Some s → Callee table blocks proc s
    callee silent proc s h = record {
      body = body;
      is = is_called;
      number = refl;
      start = refl;
      block = c.block;
      layout = ap or_none c.layout;
      params = subst (λ (z : Signature). ParamsAre table (params_in body.own.all) z.takes) c.sign
          (params_are table false lines is_table have (free_at FIXED_BYTES) c.proc.places);
      among = among_params body.own.all;
      homes = λ k i. is_called.places k (among_params body.own.all k i) (param_declared k.kind (param_kind body.own.all k i));
      orderly = subst (λ (z : Signature). Orderly table body z) c.sign (orderly table false c.proc literals (proc_number proc) once
          (is_called.inside) c.tested.first (params_below table false lines (free_at FIXED_BYTES) c.proc.places lead));
      waiters_from =
          let within = kept_within table false lines (free_at FIXED_BYTES) c.proc.places in
          waiters_from (behind_all table false lines (free_at FIXED_BYTES) c.proc.places) body.own.all
          (OWN_FROM + kept_in (params_in body.own.all)) (omega (arith, within));
      waiters_few = waiters_few table false lines (free_at FIXED_BYTES) (behind_all table false lines (free_at FIXED_BYTES) c.proc.places) c.proc.places;
      spare = λ k at i e.
          let ends = param_ends table false lines (free_at FIXED_BYTES) c.proc.places lead k at i e in
          let sizes = and_parts (nat_le (own_of c.proc).free.byte MOST_ROOM) _
          (and_parts (places_may table (own_of c.proc) c.proc) (sizes_may (own_of c.proc)) c.may).1 in
          let most = leb-true (placed_bytes (params_in (own_of c.proc).all)) SPARE_ROOM (and_parts _ _ sizes.1).0 in
          omega (arith, ends, most);
      quiet = λ e.
          let none = no_places c.proc.places c.proc.lines c.lines e in (
            sym (ap (λ (z : Signature). z.takes) c.sign) ∙ ap (taken_by (known_in table)) none,
            sym (ap (λ (z : Signature). z.gives) c.sign) ∙ ap (given_by (known_in table)) none,
          );
      silent = c.silent;
      runs = refl;
      found = found;
    }
      where
        c : Called x blocks.procs 0 proc s
        c = call_at x blocks.procs 0 proc s h all_fits all_mays all_onces silent all_right

        lines : List Line
        lines = map block_plain c.proc.lines

        literals : ℕ
        literals = 0 + length c.behind_it

        body : Body
        body = body_at table blocks false c.proc literals (proc_number proc)

        lead : params_lead c.proc.places ≡ true
        lead = (fits_by table (own_of c.proc) c.proc c.may).lead

        once : (n : ℕ) (h : Housed) → Among h body.own.all → h.number ≡ n → is_declared h.kind ≡ true → found_in is_declared n body.own.all ≡ h
        once n h i e d =
            one_found table false lines is_declared (λ kind k. k) c.proc.first (c.proc.first + c.proc.span) (free_at FIXED_BYTES) c.proc.places n h
            c.tested.order i e d

        found : not (is_empty c.proc.lines) ≡ true → (others : List WordProc)
            × (from_proc (proc_number proc) (lowered table blocks).procs ≡ code.word_proc (around table blocks body) body.number body.proc ∷ others)
        found some =
            let f = c.found some proc (omega arith) in
            (_, from_rest proc ∙ found_first (proc_number proc) rest_procs (procs_in table (first_hook blocks.procs)) _ f.0 f.1)

        is_called : IsBody table blocks body
        is_called = is_body table blocks is_table have false c.proc literals (proc_number proc) c.tested (record {
          globals = λ e. absurd (false≢true e);
          layout = λ e. absurd (false≢true e);
        }) (record { behind = c.behind_it; others = c.others; whole = c.texts; at = omega arith; among = c.among; constants = c.constants })

    -- the start code, where there is one
    pub start_is_body : (p : CodeProc BlockLine) (ps : List (CodeProc BlockLine)) → blocks.procs ≡ p ∷ ps → (number : ℕ)
        → IsBody table blocks (body_at table blocks true (last_of no_proc blocks.procs) 0 number)
    start_is_body p ps e number =
        is_body table blocks is_table have true (last_of no_proc blocks.procs) 0 number tested (record {
          globals = λ s. start_places p ps e;
          layout = λ s. start_laid p ps e;
        }) (record {
          behind = [];
          others = texts.0;
          whole = texts.1;
          at = refl;
          among = among;
          constants = constants;
        })
      where
        constants : (pieces : List Piece) → HaveConstant (map block_plain (last_of no_proc blocks.procs).lines) pieces → CodeHas blocks.procs pieces
        constants =
            subst (λ qs. (pieces : List Piece) → HaveConstant (map block_plain (last_of no_proc qs).lines) pieces → CodeHas qs pieces) (sym e)
            (last_constants no_proc p ps)

        among : (text : List ℕ) → is_member same_text (lines_texts (map block_plain (last_of no_proc blocks.procs).lines)) text ≡ true
            → is_member same_text (code_texts block_plain blocks.procs) text ≡ true
        among =
            subst (λ qs. (text : List ℕ) → is_member same_text (lines_texts (map block_plain (last_of no_proc qs).lines)) text ≡ true
            → is_member same_text (code_texts block_plain qs) text ≡ true) (sym e) (last_among no_proc p ps)

        tested : IsTested table blocks true (last_of no_proc blocks.procs)
        tested =
            subst (λ qs. IsTested table blocks true (last_of no_proc qs)) (sym e)
            (last_tested no_proc p ps (subst AllFit e all_fits) (subst AllMay e all_mays) (subst AllOnce e all_onces) (subst AreRight e all_right))

        texts : (others : List ℕ) × (texts_in blocks.procs ≡ texts_of (map block_plain (last_of no_proc blocks.procs).lines) ++ others)
        texts = subst (λ qs. (others : List ℕ) × (texts_in qs ≡ texts_of (map block_plain (last_of no_proc qs).lines) ++ others)) (sym e)
            (last_texts no_proc p ps)
