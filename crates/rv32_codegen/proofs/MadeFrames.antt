-- Procedures make the frames of their homes and the places of their calls.
use Rattle.std.proofs.Common.{◌≡◌, ℕ, List, [], ◌∷◌, ◌++◌, true, false, Some, None, refl, sym, ap, subst, ◌∙◌, inl, inr}
use Rattle.std.specs.Prelude.{◌==◌, ◌||◌, not}
use Rattle.std.proofs.lemmas.Bool.{cases_Bool, cond-true, cond-false, eqb-true, eqb-false, eq-eqb, true≢false, not-true, and_parts}
use Rattle.rv32_isa.specs.declared.instr.Instr.TheVariants.{Sw, Ebreak}
use Rattle.rv32_isa.specs.declared.label.LabelName.TheVariants.{Entry, Inner}
use Rattle.rv32_isa.specs.declared.label.LabelLine.{LabelLine}
use Rattle.rv32_isa.specs.declared.label.LabelLine.TheVariants.{Label, Do}
use Rattle.rv32_isa.specs.Labels.{from_label}
use Rattle.word_code.specs.declared.word.WordProc.{WordProc}
use Rattle.word_code.specs.Words.{from_proc, first_of, has_number, is_proc, are_procs}
use Rattle.reg_scan.specs.declared.homes.Homes.{Homes}
use Rattle.reg_scan.specs.Homes.{IsHomes}
use Rattle.rv32_codegen.specs.Code.{negative, sum, shift, lines_code, hook_of, entry_code, proc_code, homes_code, code_of}
use Rattle.rv32_codegen.specs.Stack.{frame_for}
use Rattle.rv32_codegen.specs.Lowering.{AllHomes, KeepsStack, last, last_before, leaves, MakesFrame, MakeFrames}
use Rattle.rv32_codegen.proofs.Chunks.{entry_look, body, body_split, own_body, skip_entry, skip_inner}
use Rattle.rv32_codegen.proofs.MovedFrames.{stack_made, sets_up}
use Rattle.rv32_codegen.proofs.KeptFrames.{sw, homes_apart, does_both, own_lines, own_labels}

-- ---- numbers

-- it isn't one of them, nor the first
number_apart : (p : WordProc) (procs : List WordProc) (number : ℕ) → has_number number (p ∷ procs) ≡ false →
    ((p.number == number) ≡ false) × (has_number number procs ≡ false)
number_apart p procs number has = elim (cases_Bool (p.number == number)) [
  | inl t ↦ absurd (true≢false (sym (ap (λ b. b || has_number number procs) t) ∙ has))
  | inr f ↦ (f, sym (ap (λ b. b || has_number number procs) f) ∙ has)
]

-- behind the first of them
number_behind : (p : WordProc) (procs : List WordProc) (number : ℕ) → (p.number == number) ≡ false → has_number number (p ∷ procs) ≡ true →
    has_number number procs ≡ true
number_behind p procs number f has = sym (ap (λ b. b || has_number number procs) f) ∙ has

-- ---- what isn't found

-- a procedure of another number is passed
past_entry : (h : Homes) (p : WordProc) (k : List LabelLine) (n : ℕ) → (p.number == n) ≡ false →
    from_label (Entry n) (proc_code h p k) ≡ from_label (Entry n) k
past_entry h p k n f =
    let rest = entry_code h p (lines_code h p p.lines (Do Ebreak ∷ k)) in
    cond-false (p.number == n) (Some (proc_code h p k)) (from_label (Entry n) rest) f
    ∙ ap (from_label (Entry n)) (body_split h p k)
    ∙ skip_entry p.number n (body h p) k (own_body h p)

past_inner : (h : Homes) (p : WordProc) (k : List LabelLine) (n name : ℕ) → (p.number == n) ≡ false →
    from_label (Inner n name) (proc_code h p k) ≡ from_label (Inner n name) k
past_inner h p k n name f =
    ap (from_label (Inner n name)) (body_split h p k) ∙ skip_inner p.number n name (body h p) k (eqb-false p.number n f) (own_body h p)

no_entry : (procs : List WordProc) (homes : List Homes) (n : ℕ) → has_number n procs ≡ false → from_label (Entry n) (homes_code procs homes) ≡ None
no_entry [] homes n has = refl
no_entry (p ∷ procs) [] n has = refl
no_entry (p ∷ procs) (h ∷ homes) n has =
    let x = number_apart p procs n has in past_entry h p (homes_code procs homes) n x.0 ∙ no_entry procs homes n x.1

no_inner : (procs : List WordProc) (homes : List Homes) (n name : ℕ) → has_number n procs ≡ false →
    from_label (Inner n name) (homes_code procs homes) ≡ None
no_inner [] homes n name has = refl
no_inner (p ∷ procs) [] n name has = refl
no_inner (p ∷ procs) (h ∷ homes) n name has =
    let x = number_apart p procs n has in past_inner h p (homes_code procs homes) n name x.0 ∙ no_inner procs homes n name x.1

-- ---- procedures

-- the end of one, in front of others
ends : (number frame room : ℕ) (procs : List WordProc) (homes : List Homes) → KeepsStack number frame room (Do Ebreak ∷ homes_code procs homes)
ends number frame room [] homes = last
ends number frame room (p ∷ procs) [] = last
ends number frame room (p ∷ procs) (h ∷ homes) = last_before

-- the first of them
own_frame : (p : WordProc) (procs : List WordProc) (h : Homes) (homes : List Homes) → IsHomes p h → has_number p.number procs ≡ false →
    MakesFrame (homes_code (p ∷ procs) (h ∷ homes)) p.number h.frame p.room
own_frame p procs h homes is alone =
    let tail = Do Ebreak ∷ homes_code procs homes in
    let lines = Do (Sw 2 1 0) ∷ lines_code h p p.lines tail in
    let frame = sum 2 2 (negative h.frame) in
    let places = shift 3 p.room in
    let good = homes_apart p h is in
    let kept = ends p.number h.frame p.room procs homes in
    let whole = homes_code (p ∷ procs) (h ∷ homes) in
    record {
      hook = hook_of p.kind;
      made = frame ++ places;
      body = lines;
      begins = cond-true (p.number == p.number) (Some whole) (from_label (Entry p.number) (entry_code h p (lines_code h p p.lines tail)))
          (eq-eqb p.number p.number refl) ∙ ap (λ l. Some (Label (Entry p.number) (hook_of p.kind) ∷ l)) (does_both frame places lines);
      makes = stack_made h.frame p.room;
      keeps = leaves (sw 2 1 0) (own_lines h p good p.lines tail kept);
      labels = λ name found e. own_labels h p good name p.lines tail found kept (no_inner procs homes p.number name alone)
          (sym (entry_look (Inner p.number name) h p (lines_code h p p.lines tail)) ∙ e);
    }

-- one behind the first
other_frame : (h : Homes) (p : WordProc) (k : List LabelLine) (number frame room : ℕ) → (p.number == number) ≡ false →
    MakesFrame k number frame room → MakesFrame (proc_code h p k) number frame room
other_frame h p k number frame room f m = record {
  hook = m.hook;
  made = m.made;
  body = m.body;
  begins = past_entry h p k number f ∙ m.begins;
  makes = m.makes;
  keeps = m.keeps;
  labels = λ name found e. m.labels name found (sym (past_inner h p k number name f) ∙ e);
}

-- the frame and the room of the procedure of a number
abbrev Makes : List LabelLine → List WordProc → List Homes → ℕ → Type 0
Makes lines procs homes number = MakesFrame lines number (frame_for procs homes number) (first_of (from_proc number procs)).room

procs_frames : (procs : List WordProc) (homes : List Homes) → AllHomes procs homes → are_procs procs ≡ true → (number : ℕ) →
    has_number number procs ≡ true → Makes (homes_code procs homes) procs homes number
procs_frames [] homes all ok number has = absurd (true≢false (sym has))
procs_frames (p ∷ procs) [] all ok number has = absurd all
procs_frames (p ∷ procs) (h ∷ homes) all ok number has =
    let whole = homes_code (p ∷ procs) (h ∷ homes) in
    let k = homes_code procs homes in
    let rest = and_parts (not (has_number p.number procs)) (are_procs procs) (and_parts (is_proc p) _ ok).1 in
    elim (cases_Bool (p.number == number)) [
      | inl t ↦
          let frame_is = cond-true (p.number == number) h.frame (frame_for procs homes number) t in
          let room_is = ap (λ ps. (first_of ps).room) (cond-true (p.number == number) (p ∷ procs) (from_proc number procs) t) in
          let own = own_frame p procs h homes all.0 (not-true (has_number p.number procs) rest.0) in
          let here : MakesFrame whole number h.frame p.room =
          subst (λ n. MakesFrame whole n h.frame p.room) (eqb-true p.number number t) own in
          subst (λ r. MakesFrame whole number (frame_for (p ∷ procs) (h ∷ homes) number) r) (sym room_is)
          (subst (λ f. MakesFrame whole number f p.room) (sym frame_is) here)
      | inr f ↦
          let frame_is = cond-false (p.number == number) h.frame (frame_for procs homes number) f in
          let room_is = ap (λ ps. (first_of ps).room) (cond-false (p.number == number) (p ∷ procs) (from_proc number procs) f) in
          let made = procs_frames procs homes all.1 rest.1 number (number_behind p procs number f has) in
          let here = other_frame h p k number (frame_for procs homes number) (first_of (from_proc number procs)).room f made in
          subst (λ r. MakesFrame whole number (frame_for (p ∷ procs) (h ∷ homes) number) r) (sym room_is)
          (subst (λ x. MakesFrame whole number x (first_of (from_proc number procs)).room) (sym frame_is) here)
    ]

-- no label stands in front of them
pub code_frames : (procs : List WordProc) (homes : List Homes) → AllHomes procs homes → are_procs procs ≡ true →
    MakeFrames (code_of procs homes) procs homes
code_frames procs homes all ok = record {
  from_start = sets_up (homes_code procs homes);
  each = λ number has. let m = procs_frames procs homes all ok number has in record {
    hook = m.hook;
    made = m.made;
    body = m.body;
    begins = m.begins;
    makes = m.makes;
    keeps = m.keeps;
    labels = m.labels;
  };
  only = no_entry procs homes;
}
