-- Where procedures and their labels are found in label code.
use Rattle.std.proofs.Common.{◌≡◌, ℕ, List, [], ◌∷◌, true, false, Option, Some, None, refl, sym, ap, ◌∙◌, inl, inr}
use Rattle.std.specs.Prelude.{◌==◌}
use Rattle.std.proofs.lemmas.Bool.{eqb-true, eqb-false, cases_Bool, cond-true, cond-false}
use Rattle.rv32_isa.specs.declared.instr.Instr.TheVariants.{Ebreak}
use Rattle.rv32_isa.specs.declared.label.LabelName.TheVariants.{Entry, Inner}
use Rattle.rv32_isa.specs.declared.label.LabelLine.{LabelLine}
use Rattle.rv32_isa.specs.declared.label.LabelLine.TheVariants.{Do}
use Rattle.rv32_isa.specs.Labels.{from_label}
use Rattle.word_code.specs.declared.word.WordInstr.{WordInstr}
use Rattle.word_code.specs.declared.word.WordProc.{WordProc}
use Rattle.word_code.specs.Words.{from_proc, from_label as from_word_label, is_label}
use Rattle.reg_scan.specs.declared.homes.Homes.{Homes}
use Rattle.rv32_codegen.specs.Code.{lines_code, entry_code, proc_code}
use Rattle.rv32_codegen.proofs.Chunks.{entry_look, line_look, body, body_split, own_body, skip_entry, skip_inner}

-- the homes of the procedure of each number
abbrev pub Layout : Type 0
Layout = ℕ → Homes

-- the code of procedures under a layout
abbrev pub procs_code : Layout → List WordProc → List LabelLine
procs_code lay [] = []
procs_code lay (p ∷ procs) = proc_code (lay p.number) p (procs_code lay procs)

-- behind the lines of a procedure
abbrev pub behind : Layout → List WordProc → List LabelLine
behind lay procs = Do Ebreak ∷ procs_code lay procs

pub none_some : {A : Type 0} (x : A) → None ≡ Some x → ⊥
none_some x e = cc

pub some_same : {A : Type 0} (x y : A) → Some x ≡ Some y → x ≡ y
some_same x y e = cc

pub nil_cons : {A : Type 0} (x : A) (xs : List A) → [] ≡ x ∷ xs → ⊥
nil_cons x xs e = cc

-- the first one of that number, or one of those behind it
pub record Here (n : ℕ) (q : WordProc) (procs : List WordProc) (p : WordProc) (tail : List WordProc) : Type 0 where
  pub number : q.number ≡ n
  pub first : q ≡ p
  pub rest : procs ≡ tail

pub here : (n : ℕ) (q : WordProc) (procs : List WordProc) (p : WordProc) (tail : List WordProc) → (q.number == n) ≡ true →
    from_proc n (q ∷ procs) ≡ p ∷ tail → Here n q procs p tail
here n q procs p tail t e =
    let is : q ∷ procs ≡ p ∷ tail = sym (cond-true (q.number == n) (q ∷ procs) (from_proc n procs) t) ∙ e in
    record { number = eqb-true q.number n t; first = cc; rest = cc }

pub later : (n : ℕ) (q : WordProc) (procs : List WordProc) (p : WordProc) (tail : List WordProc) → (q.number == n) ≡ false →
    from_proc n (q ∷ procs) ≡ p ∷ tail → from_proc n procs ≡ p ∷ tail
later n q procs p tail f e = sym (cond-false (q.number == n) (q ∷ procs) (from_proc n procs) f) ∙ e

-- the number by which a procedure is found
pub number_is : (n : ℕ) (procs : List WordProc) (p : WordProc) (tail : List WordProc) → from_proc n procs ≡ p ∷ tail → p.number ≡ n
number_is n [] p tail e = absurd (nil_cons p tail e)
number_is n (q ∷ procs) p tail e = elim (cases_Bool (q.number == n)) [
  | inl t ↦ let h = here n q procs p tail t e in ap (λ x. x.number) (sym h.first) ∙ h.number
  | inr f ↦ number_is n procs p tail (later n q procs p tail f e)
]

module _ (lay : Layout) where
  -- the code of the first of these procedures
  abbrev pub code_from : List WordProc → Option (List LabelLine)
  code_from [] = None
  code_from (p ∷ procs) = Some (proc_code (lay p.number) p (procs_code lay procs))

  pub entry_is : (n : ℕ) (procs : List WordProc) → from_label (Entry n) (procs_code lay procs) ≡ code_from (from_proc n procs)
  entry_is n [] = refl
  entry_is n (p ∷ procs) =
      let h = lay p.number in
      let k = procs_code lay procs in
      let rest = entry_code h p (lines_code h p p.lines (Do Ebreak ∷ k)) in
      elim (cases_Bool (p.number == n)) [
        | inl t ↦
            cond-true (p.number == n) (Some (procs_code lay (p ∷ procs))) (from_label (Entry n) rest) t
            ∙ sym (ap code_from (cond-true (p.number == n) (p ∷ procs) (from_proc n procs) t))
        | inr f ↦
            cond-false (p.number == n) (Some (procs_code lay (p ∷ procs))) (from_label (Entry n) rest) f
            ∙ ap (from_label (Entry n)) (body_split h p k)
            ∙ skip_entry p.number n (body h p) k (own_body h p)
            ∙ entry_is n procs
            ∙ sym (ap code_from (cond-false (p.number == n) (p ∷ procs) (from_proc n procs) f))
      ]

  -- ---- labels of a procedure

  look_here : (h : Homes) (name : ℕ) (p : WordProc) (l : WordInstr) (lines found : List WordInstr) (k : List LabelLine) →
      from_word_label name (l ∷ lines) ≡ Some found →
      (from_word_label name lines ≡ Some found → from_label (Inner p.number name) (lines_code h p lines k) ≡ Some (lines_code h p found k)) →
      from_label (Inner p.number name) (lines_code h p (l ∷ lines) k) ≡ Some (lines_code h p found k)
  look_here h name p l lines found k e go =
      let all = lines_code h p (l ∷ lines) k in
      let rest = from_label (Inner p.number name) (lines_code h p lines k) in
      elim (cases_Bool (is_label name l)) [
        | inl t ↦
            let is = some_same (l ∷ lines) found (sym (cond-true (is_label name l) (Some (l ∷ lines)) (from_word_label name lines) t) ∙ e) in
            line_look name h p l (lines_code h p lines k) ∙ cond-true (is_label name l) (Some all) rest t ∙ ap (λ ls. Some (lines_code h p ls k)) is
        | inr f ↦
            line_look name h p l (lines_code h p lines k) ∙ cond-false (is_label name l) (Some all) rest f
            ∙ go (sym (cond-false (is_label name l) (Some (l ∷ lines)) (from_word_label name lines) f) ∙ e)
      ]

  inner_here : (h : Homes) (name : ℕ) (p : WordProc) (lines found : List WordInstr) (k : List LabelLine) → from_word_label name lines ≡ Some found →
      from_label (Inner p.number name) (lines_code h p lines k) ≡ Some (lines_code h p found k)
  inner_here h name p [] found k e = absurd (none_some found e)
  inner_here h name p (l ∷ lines) found k e = look_here h name p l lines found k e (λ g. inner_here h name p lines found k g)

  pub inner_is : (n name : ℕ) (procs : List WordProc) (p : WordProc) (tail : List WordProc) (found : List WordInstr) →
      from_proc n procs ≡ p ∷ tail →
      from_word_label name p.lines ≡ Some found →
      from_label (Inner n name) (procs_code lay procs) ≡ Some (lines_code (lay p.number) p found (behind lay tail))
  inner_is n name [] p tail found e g = absurd (nil_cons p tail e)
  inner_is n name (q ∷ procs) p tail found e g = elim (cases_Bool (q.number == n)) [
    | inl t ↦
        let is = here n q procs p tail t e in
        let h = lay q.number in
        let k = behind lay procs in
        let lines = ap (λ x. from_word_label name x.lines) is.first ∙ g in
        ap (λ m. from_label (Inner m name) (procs_code lay (q ∷ procs))) (sym is.number)
        ∙ entry_look (Inner q.number name) h q (lines_code h q q.lines k)
        ∙ inner_here h name q q.lines found k lines
        ∙ ap (λ x. Some (lines_code (lay x.number) x found k)) is.first
        ∙ ap (λ x. Some (lines_code (lay p.number) p found (behind lay x))) is.rest
    | inr f ↦
        let h = lay q.number in
        let k = procs_code lay procs in
        ap (from_label (Inner n name)) (body_split h q k)
        ∙ skip_inner q.number n name (body h q) k (eqb-false q.number n f) (own_body h q)
        ∙ inner_is n name procs p tail found (later n q procs p tail f e) g
  ]
