-- Code of which each line becomes another one that is, as a line of flat code, what it was keeps its form.
use Rattle.std.proofs.Common.{◌≡◌, refl, ap, ap₂, ◌∙◌, arith, ℕ, suc, ◌+◌, ◌*◌, ◌≤◌, Bool, true, false, ◌&&◌, List, [], ◌∷◌, ◌++◌, map, length, Option}
use Rattle.std.proofs.Common.{Some, None}
use Rattle.std.specs.Prelude.{option_map}
use Rattle.std.specs.Set.{unique_keys}
use Rattle.nim_types.specs.Types.{same_text}
use Rattle.nim_types.specs.declared.types.TypeDef.{TypeDef}
use Rattle.flat_code.specs.declared.code.Code.{Code}
use Rattle.flat_code.specs.declared.code.CodeProc.{CodeProc}
use Rattle.flat_code.specs.declared.line.Line.{Line}
use Rattle.flat_code.specs.declared.place.FlatPlace.{FlatPlace}
use Rattle.flat_code.specs.Scene.{Known, known_in}
use Rattle.flat_code.specs.Running.{from_label, before_last}
use Rattle.flat_code.specs.Whole.{label_in, target, back_to, falls, is_found, is_followed, stands, all_lead, are_whole}
use Rattle.flat_code.specs.Fits.{Signature, signature_of, fits, all_fit, has_lines_for, start_places, in_order, signatures, each_fits, code_fits}
use Rattle.flat_code.specs.Fits.{are_none, params_at, results_at}
use Rattle.flat_code.specs.Waits.{waits_right, all_wait_right, AllWaitRight}
use Rattle.flat_code.specs.Sizes.{summed, weight, proc_weight, texts_in, lines_texts, code_weight, code_texts, data_bytes, globals_bytes, handled_bytes}
use Rattle.flat_code.specs.Sizes.{names_bytes, linked_in, constants_bytes}
use Rattle.flat_code.specs.Codes.{proc_of, lines_in, each_line, by_lines, KeepsForm}
use Rattle.flat_code.proofs.LineMaps.{in_proc, before_last_map, label_map}
use Rattle.flat_code.proofs.ByLines.{procs_by_lines}

-- ---- lists

length_map : {A B : Type 0} (g : A → B) (xs : List A) → length (map g xs) ≡ length xs
length_map g [] = refl
length_map g (x ∷ xs) = ap (λ n. suc n) (length_map g xs)

map_map : {A B C : Type 0} (g : B → C) (f : A → B) (h : A → C) → ((x : A) → g (f x) ≡ h x) → (xs : List A) → map g (map f xs) ≡ map h xs
map_map g f h is [] = refl
map_map g f h is (x ∷ xs) = ap₂ (λ y ys. y ∷ ys) (is x) (map_map g f h is xs)

module _ {L M : Type 0} (f : L → M) (plain : L → Line) (plain' : M → Line) (is : (line : L) → plain' (f line) ≡ plain line) where
  -- ---- sizes

  sums : (measure : Line → ℕ) → (lines : List L) → summed measure (map plain' (map f lines)) ≡ summed measure (map plain lines)
  sums measure [] = refl
  sums measure (l ∷ lines) = ap₂ (λ m n. m + n) (ap measure (is l)) (sums measure lines)

  proc_weights : (lines : List L) → proc_weight (map plain' (map f lines)) ≡ proc_weight (map plain lines)
  proc_weights [] = refl
  proc_weights (l ∷ lines) = ap (λ n. 18 + n) (sums weight (l ∷ lines))

  weights : (procs : List (CodeProc L)) → code_weight plain' (map (each_line f) procs) ≡ code_weight plain procs
  weights [] = refl
  weights (p ∷ procs) = ap₂ (λ m n. m + n) (proc_weights p.lines) (weights procs)

  own_texts : (lines : List L) → lines_texts (map plain' (map f lines)) ≡ lines_texts (map plain lines)
  own_texts [] = refl
  own_texts (l ∷ lines) = ap₂ (λ ts us. ts ++ us) (ap texts_in (is l)) (own_texts lines)

  texts : (procs : List (CodeProc L)) → code_texts plain' (map (each_line f) procs) ≡ code_texts plain procs
  texts [] = refl
  texts (p ∷ procs) = ap₂ (λ ts us. ts ++ us) (own_texts p.lines) (texts procs)

  constants : (procs : List (CodeProc L)) → constants_bytes plain' (map (each_line f) procs) ≡ constants_bytes plain procs
  constants [] = refl
  constants (p ∷ procs) = ap₂ (λ m n. m + n) (sums linked_in p.lines) (constants procs)

  lines_same : (procs : List (CodeProc L)) → lines_in (map (each_line f) procs) ≡ lines_in procs
  lines_same [] = refl
  lines_same (p ∷ procs) = ap₂ (λ m n. m + n) (length_map f p.lines) (lines_same procs)

  starts : (procs : List (CodeProc L)) → start_places (map (each_line f) procs) ≡ start_places procs
  starts [] = refl
  starts (p ∷ []) = refl
  starts (p ∷ q ∷ procs) = starts (q ∷ procs)

  data_same : (table : List TypeDef) (procs : List (CodeProc L)) → data_bytes plain' table (map (each_line f) procs) ≡ data_bytes plain table procs
  data_same table procs =
      ap₂ (λ places n. globals_bytes (known_in table) places + (names_bytes table + n)) (starts procs)
      (ap₂ (λ ts n. handled_bytes (unique_keys same_text ts) + n) (texts procs) (constants procs))

  -- ---- labels

  leads : (whole rest : List L) → all_lead (λ line. label_in (plain' line)) plain' (map f whole) (map f rest)
      ≡ all_lead (λ line. label_in (plain line)) plain whole rest
  leads whole [] = refl
  leads whole (line ∷ rest) =
      ap₂ (λ a b. a && b) (ap₂ (λ a b. a && b) (stood rest (ap target (is line))) (stood whole (ap back_to (is line))))
      (ap₂ (λ a b. a && b) (followed (ap falls (is line)) rest) (leads whole rest))
    where
      found : (o : Option (List L)) → is_found (option_map (map f) o) ≡ is_found o
      found None = refl
      found (Some x) = refl

      by_name : (lines : List L) (o : Option ℕ) → stands (λ line. label_in (plain' line)) plain' (map f lines) o
          ≡ stands (λ line. label_in (plain line)) plain lines o
      by_name lines None = refl
      by_name lines (Some name) =
          ap is_found (label_map f (λ line. label_in (plain line)) (λ line. label_in (plain' line)) (λ line. ap label_in (is line)) name lines)
          ∙ found (from_label (λ line. label_in (plain line)) name lines)

      stood : (lines : List L) {o o' : Option ℕ} → o' ≡ o → stands (λ line. label_in (plain' line)) plain' (map f lines) o'
          ≡ stands (λ line. label_in (plain line)) plain lines o
      stood lines {o} {o'} e = ap (stands (λ line. label_in (plain' line)) plain' (map f lines)) e ∙ by_name lines o

      one_follows : (b : Bool) (lines : List L) → is_followed b (map f lines) ≡ is_followed b lines
      one_follows true [] = refl
      one_follows true (l ∷ lines) = refl
      one_follows false lines = refl

      followed : {b b' : Bool} → b' ≡ b → (lines : List L) → is_followed b' (map f lines) ≡ is_followed b lines
      followed {b} {b'} e lines = ap (λ c. is_followed c (map f lines)) e ∙ one_follows b lines

  wholes : (known : Known) (procs : List (CodeProc L)) →
      are_whole (λ line. label_in (plain' line)) plain' (map (in_proc f) (map (proc_of known) procs))
      ≡ are_whole (λ line. label_in (plain line)) plain (map (proc_of known) procs)
  wholes known [] = refl
  wholes known (p ∷ procs) = ap₂ (λ a b. a && b) (leads p.lines p.lines) (wholes known procs)

  -- ---- types

  module _ (known : Known) where
    all_fits : (sigs : List Signature) (globals places : List FlatPlace) (lines : List L) →
        all_fit known sigs globals places (map plain' (map f lines)) ≡ all_fit known sigs globals places (map plain lines)
    all_fits sigs globals places [] = refl
    all_fits sigs globals places (l ∷ lines) =
        ap₂ (λ a b. a && b) (ap (fits known sigs globals places) (is l)) (all_fits sigs globals places lines)

    has_lines : (places : List FlatPlace) (lines : List L) → has_lines_for places (map f lines) ≡ has_lines_for places lines
    has_lines [] lines = refl
    has_lines (p ∷ places) [] = refl
    has_lines (p ∷ places) (l ∷ lines) = refl

    procs_fit : (sigs : List Signature) (globals : List FlatPlace) (procs : List (CodeProc L)) →
        each_fits plain' known sigs globals (map (each_line f) procs) ≡ each_fits plain known sigs globals procs
    procs_fit sigs globals [] = refl
    procs_fit sigs globals (p ∷ procs) =
        ap₂ (λ a b. a && b)
        (ap₂ (λ a b. a && (in_order plain known p && b)) (has_lines p.places p.lines) (all_fits sigs globals p.places p.lines))
        (procs_fit sigs globals procs)

    same_signatures : (procs : List (CodeProc L)) → signatures plain' known (before_last (map (each_line f) procs)) ≡ signatures plain known (before_last procs)
    same_signatures procs =
        ap (signatures plain' known) (before_last_map (each_line f) procs)
        ∙ map_map (λ (p : CodeProc M). signature_of known p.places) (each_line f) (λ (p : CodeProc L). signature_of known p.places) (λ p. refl)
        (before_last procs)

    codes_fit : (procs : List (CodeProc L)) → code_fits plain' known (map (each_line f) procs) ≡ code_fits plain known procs
    codes_fit procs =
        ap₂ (λ places sigs. are_none (params_at places ++ results_at places) && each_fits plain' known sigs places (map (each_line f) procs))
        (starts procs) (same_signatures procs)
        ∙ ap (λ b. are_none (params_at (start_places procs) ++ results_at (start_places procs)) && b)
        (procs_fit (signatures plain known (before_last procs)) (start_places procs) procs)

    -- ---- what waits

    line_waits : (places : List FlatPlace) (lines : List L) → all_wait_right plain' known places (map f lines) ≡ all_wait_right plain known places lines
    line_waits places [] = refl
    line_waits places (l ∷ lines) = ap₂ (λ a b. a && b) (ap (waits_right known places) (is l)) (line_waits places lines)

    procs_wait : (procs : List (CodeProc L)) → AllWaitRight plain known procs → AllWaitRight plain' known (map (each_line f) procs)
    procs_wait [] h = tt
    procs_wait (p ∷ procs) h = (line_waits p.places p.lines ∙ h.0, procs_wait procs h.1)

  -- ---- all of it

  at_most : {m n : ℕ} → m ≡ n → m ≤ n
  at_most e = omega (arith, e)

  one_each : {m n : ℕ} → m ≡ n → m ≤ 1 * n
  one_each e = omega (arith, e)

  pub form_by_lines : (code : Code L) → KeepsForm plain plain' 1 code (by_lines f code)
  form_by_lines code = record {
    lines = one_each (lines_same code.procs);
    weight = at_most (weights code.procs);
    statics = λ table. at_most (data_same table code.procs);
    places = map_map (λ (p : CodeProc M). p.places) (each_line f) (λ (p : CodeProc L). p.places) (λ p. refl) code.procs;
    hooks = map_map (λ (p : CodeProc M). p.hook) (each_line f) (λ (p : CodeProc L). p.hook) (λ p. refl) code.procs;
    whole = λ known e.
        ap (are_whole (λ line. label_in (plain' line)) plain') (procs_by_lines f known code.procs) ∙ wholes known code.procs ∙ e;
    fits = λ known e. codes_fit known code.procs ∙ e;
    waits = λ known h. procs_wait known code.procs h;
  }
