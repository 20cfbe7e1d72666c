-- Word code's calls, and their frames in the machine's stack, in the bytes behind the places.
use Rattle.std.proofs.Common.{◌≡◌, ◌≢◌, ℕ, suc, ◌+◌, ◌-◌, ◌*◌, ◌/◌, ◌%◌, ◌^◌, ◌<◌, ◌≤◌, ◌⊎◌, inl, inr}
use Rattle.std.proofs.Common.{List, [], ◌∷◌, ◌++◌, length, get_or, Some, None, true, refl}
use Rattle.std.proofs.Common.{sym, ap, subst, ◌∙◌, arith, append_assoc}
use Rattle.std.specs.Prelude.{◌==◌, false}
use Rattle.std.proofs.lemmas.Bool.{cases_eq, cases_Bool, eq-eqb, ne_eqb, and_parts, cond-true, cond-false}
use Rattle.arc_base.specs.Event.{Event}
use Rattle.arc_base.specs.Stepping.{Next}
use Rattle.arc_base.specs.Simulation.{Does}
use Rattle.rv32_isa.specs.declared.instr.Instr.TheVariants.{Ebreak}
use Rattle.rv32_isa.specs.declared.label.LabelName.TheVariants.{Entry}
use Rattle.rv32_isa.specs.declared.label.LabelLine.{LabelLine}
use Rattle.rv32_isa.specs.declared.label.LabelLine.TheVariants as line
use Rattle.rv32_isa.specs.Values.{added}
use Rattle.rv32_isa.specs.Machine.{Lives}
use Rattle.rv32_isa.specs.Labels.{Addresses, Rise, marks, mark_before}
use Rattle.rv32_isa.specs.LabelsMeaning.{LabelRun, OfDataAndHeap, step}
use Rattle.word_code.specs.declared.word.TheConstants.{MOST_ARGUMENTS}
use Rattle.word_code.specs.declared.word.WordInstr.{WordInstr}
use Rattle.word_code.specs.declared.word.WordInstr.TheVariants.{Call}
use Rattle.word_code.specs.declared.word.WordProc.{WordProc}
use Rattle.word_code.specs.Words.{Vars, no_words, put, WordFrame, WordState, most_calls, is_counted, counted, from_proc, from_label, is_label, are_named}
use Rattle.word_code.specs.Words.{all_named}
use Rattle.reg_scan.specs.declared.homes.Home.{Home}
use Rattle.reg_scan.specs.declared.homes.Home.TheVariants.{Reg, Frame}
use Rattle.reg_scan.specs.declared.homes.Homes.{Homes}
use Rattle.reg_scan.specs.Alive.{Alive}
use Rattle.reg_scan.specs.Homes.{home_of, is_free, IsFrame, IsHomes}
use Rattle.rv32_codegen.specs.Code.{only_calls, is_leaf, after_call, lines_code, entry_code, hook_of, proc_code, start_code}
use Rattle.rv32_codegen.proofs.StackWords.{words, word_in, put_word, length-put_word, word_put_same, word_put_other}
use Rattle.rv32_codegen.proofs.Machine.{run_at, Fits, Regs, word_place}
use Rattle.rv32_codegen.proofs.Frees.{is_kept, free_kept}
use Rattle.rv32_codegen.proofs.Chunks.{lines_fold, lines_end, body, body_split, entry_split}
use Rattle.rv32_codegen.proofs.Lookups.{Layout, procs_code, behind, none_some, some_same, nil_cons, here, later}

-- ---- homes, by words

abbrev pub size : Homes → ℕ
size h = h.frame / 4

-- a home that code can use, where the frame has so many words: one of them, behind the return address, or a free register
abbrev pub IsThere : (size : ℕ) → Home → Type 0
IsThere n (Reg number) = is_free number ≡ true
IsThere n (Frame at) = (4 * (at / 4) ≡ at) × ((0 < at / 4) × (at / 4 < n))

-- what code needs of the homes of a procedure
pub record IsLaid (h : Homes) (p : WordProc) : Type 0 where
  pub homes : IsHomes p h
  pub frame : 4 * size h ≡ h.frame
  pub some : 0 < size h
  pub there : (v : ℕ) → v < p.vars → IsThere (size h) (home_of h v)
  pub few : p.params ≤ p.vars
  pub room : p.room % 4 ≡ 0
  pub named : all_named p.vars p.lines ≡ true

-- ---- words at homes

-- what stands at a home, where the frame begins at word j
abbrev pub word_at : (regs ws : List ℕ) (j : ℕ) → Home → ℕ
word_at regs ws j (Reg number) = get_or regs number 0
word_at regs ws j (Frame at) = word_in ws (j + at / 4)

-- a word of the frame is written, where the home is one
abbrev pub saved : (ws : List ℕ) (j : ℕ) → Home → (value : ℕ) → List ℕ
saved ws j (Reg number) value = ws
saved ws j (Frame at) value = put_word ws (j + at / 4) value

-- a register has a word, where the home is one
abbrev pub HasWord : (regs : List ℕ) → Home → (value : ℕ) → Type 0
HasWord regs (Reg number) value = get_or regs number 0 ≡ value
HasWord regs (Frame at) value = Unit {0}

-- free registers and x1 are as they were
abbrev pub Alike : (regs new : List ℕ) → Type 0
Alike regs new = (r : ℕ) → is_kept r ≡ true → get_or new r 0 ≡ get_or regs r 0

-- but for one
abbrev pub Alike_but : (rd : ℕ) (regs new : List ℕ) → Type 0
Alike_but rd regs new = (r : ℕ) → is_kept r ≡ true → r ≢ rd → get_or new r 0 ≡ get_or regs r 0

module _ (ws : List ℕ) (j n : ℕ) (inside : j + n ≤ words ws) where
  pub length-saved : (home : Home) (value : ℕ) → IsThere n home → length (saved ws j home value) ≡ length ws
  length-saved (Reg number) value h = refl
  length-saved (Frame at) value h = length-put_word ws (j + at / 4) value (omega (arith, h.1.1, inside))

  -- words outside of the frame, and the return address, stay
  pub saved_outside : (k : ℕ) (home : Home) (value : ℕ) → IsThere n home → (k ≤ j) ⊎ (j + n ≤ k) →
      word_in (saved ws j home value) k ≡ word_in ws k
  saved_outside k (Reg number) value h o = refl
  saved_outside k (Frame at) value h (inl le) =
      word_put_other ws (j + at / 4) value (omega (arith, h.1.1, inside)) k (λ s. omega (arith, s, le, h.1.0))
  saved_outside k (Frame at) value h (inr le) =
      word_put_other ws (j + at / 4) value (omega (arith, h.1.1, inside)) k (λ s. omega (arith, s, le, h.1.1))

  saved_here : (regs : List ℕ) (home : Home) (value : ℕ) → IsThere n home → value < 2 ^ 32 → HasWord regs home value →
      word_at regs (saved ws j home value) j home ≡ value
  saved_here regs (Reg number) value h small has = has
  saved_here regs (Frame at) value h small has = word_put_same ws (j + at / 4) value (omega (arith, h.1.1, inside)) small

  saved_apart : (regs : List ℕ) (home other : Home) (value : ℕ) → IsThere n home → IsThere n other → other ≢ home →
      word_at regs (saved ws j home value) j other ≡ word_at regs ws j other
  saved_apart regs (Reg number) other value h g ne = refl
  saved_apart regs (Frame at) (Reg number) value h g ne = refl
  saved_apart regs (Frame at) (Frame from) value h g ne =
      word_put_other ws (j + at / 4) value (omega (arith, h.1.1, inside)) (j + from / 4)
      (λ s. ne (ap Frame (let e : from ≡ at = omega (arith, s, h.0, g.0) in e)))

-- what stands at a home where the frame has the same words, wherever it begins
pub word_kept : (regs ws ws' : List ℕ) (j j' : ℕ) (home : Home) → ((d : ℕ) → word_in ws' (j' + d) ≡ word_in ws (j + d)) →
    word_at regs ws' j' home ≡ word_at regs ws j home
word_kept regs ws ws' j j' (Reg number) same = refl
word_kept regs ws ws' j j' (Frame at) same = same (at / 4)

pub word_alike : (regs new ws : List ℕ) (j n : ℕ) (home : Home) → IsThere n home → Alike regs new → word_at new ws j home ≡ word_at regs ws j home
word_alike regs new ws j n (Reg number) h same = same number (free_kept number h)
word_alike regs new ws j n (Frame at) h same = refl

-- whatever registers hold
pub word_framed : (regs new ws : List ℕ) (j : ℕ) (home : Home) → IsFrame home → word_at new ws j home ≡ word_at regs ws j home
word_framed regs new ws j (Reg number) h = absurd h
word_framed regs new ws j (Frame at) h = refl

-- where the places of a call end
abbrev pub places_end : WordFrame → ℕ
places_end c = added c.base c.proc.room

-- the bytes of the places of these calls
abbrev pub rooms : List WordFrame → ℕ
rooms [] = 0
rooms (c ∷ cs) = c.proc.room + rooms cs

-- ---- where lines stand

-- one list is the end of another
abbrev pub Within : List LabelLine → List LabelLine → Type 0
Within whole left = (before : List LabelLine) × (whole ≡ before ++ left)

pub within_more : (whole mid left front : List LabelLine) → Within whole mid → mid ≡ front ++ left → Within whole left
within_more whole mid left front h e = (h.0 ++ front, h.1 ∙ ap (λ l. h.0 ++ l) e ∙ sym (append_assoc h.0 front left))

module _ (lay : Layout) where
  lines_within : (h : Homes) (p : WordProc) (before left : List WordInstr) (k : List LabelLine) →
      Within (lines_code h p (before ++ left) k) (lines_code h p left k)
  lines_within h p before left k = (lines_code h p before [], lines_fold h p before left k ∙ lines_end h p before (lines_code h p left k))

  proc_within : (h : Homes) (p : WordProc) (k : List LabelLine) → Within (proc_code h p k) (lines_code h p p.lines (line.Do Ebreak ∷ k))
  proc_within h p k = (
    line.Label (Entry p.number) (hook_of p.kind) ∷ entry_code h p [],
    ap (λ l. line.Label (Entry p.number) (hook_of p.kind) ∷ l)
        (entry_split h p (lines_code h p p.lines (line.Do Ebreak ∷ k))),
  )

  procs_within : (n : ℕ) (procs : List WordProc) (p : WordProc) (tail : List WordProc) → from_proc n procs ≡ p ∷ tail →
      Within (procs_code lay procs) (proc_code (lay p.number) p (procs_code lay tail))
  procs_within n [] p tail e = absurd (nil_cons p tail e)
  procs_within n (q ∷ procs) p tail e = elim (cases_Bool (q.number == n)) [
    | inl t ↦
        let is = here n q procs p tail t e in
        ([], ap (λ x. proc_code (lay x.number) x (procs_code lay procs)) is.first ∙ ap (λ x. proc_code (lay p.number) p (procs_code lay x)) is.rest)
    | inr f ↦
        let x = procs_within n procs p tail (later n q procs p tail f e) in
        let head = line.Label (Entry q.number) (hook_of q.kind) ∷ body (lay q.number) q in (
          head ++ x.0,
          ap (λ l. line.Label (Entry q.number) (hook_of q.kind) ∷ l) (body_split (lay q.number) q (procs_code lay procs))
              ∙ ap (λ l. head ++ l) x.1
              ∙ sym (append_assoc head x.0 _),
        )
  ]

  -- ---- calls

  module _ (procs : List WordProc) where
    -- lines of a procedure that is there
    pub record Sits (p : WordProc) (lines : List WordInstr) : Type 0 where
      pub tail : List WordProc
      pub found : from_proc p.number procs ≡ p ∷ tail
      pub before : List WordInstr
      pub split : before ++ lines ≡ p.lines

    -- their code
    abbrev pub code_here : (p : WordProc) (lines : List WordInstr) → Sits p lines → List LabelLine
    code_here p lines sits = lines_code (lay p.number) p lines (behind lay sits.tail)

    abbrev pub sits_next : (p : WordProc) (l : WordInstr) (lines : List WordInstr) → Sits p (l ∷ lines) → Sits p lines
    sits_next p l lines s =
        record { tail = s.tail; found = s.found; before = s.before ++ l ∷ []; split = append_assoc s.before (l ∷ []) lines ∙ s.split }

    pub sits_within : (p : WordProc) (lines : List WordInstr) (s : Sits p lines) → Within (procs_code lay procs) (code_here p lines s)
    sits_within p lines s =
        let h = lay p.number in
        let a = procs_within p.number procs p s.tail s.found in
        let b = proc_within h p (procs_code lay s.tail) in
        let c = lines_within h p s.before lines (behind lay s.tail) in
        within_more _ (lines_code h p p.lines (behind lay s.tail)) _ c.0
        (within_more _ (proc_code h p (procs_code lay s.tail)) _ b.0 a b.1)
        (ap (λ x. lines_code h p x (behind lay s.tail)) (sym s.split) ∙ c.1)

    named_at : (n : ℕ) (before : List WordInstr) (l : WordInstr) (rest : List WordInstr) → all_named n (before ++ l ∷ rest) ≡ true →
        are_named n l ≡ true
    named_at n [] l rest h = (and_parts (are_named n l) (all_named n rest) h).0
    named_at n (x ∷ before) l rest h = named_at n before l rest (and_parts (are_named n x) (all_named n (before ++ l ∷ rest)) h).1

    pub sits_named : (p : WordProc) (l : WordInstr) (rest : List WordInstr) → IsLaid (lay p.number) p → Sits p (l ∷ rest) →
        are_named p.vars l ≡ true
    sits_named p l rest laid s = named_at p.vars s.before l rest (ap (all_named p.vars) s.split ∙ laid.named)

    pub label_split : (name : ℕ) (lines found : List WordInstr) → from_label name lines ≡ Some found → (before : List WordInstr)
        × (before ++ found ≡ lines)
    label_split name [] found e = absurd (none_some found e)
    label_split name (l ∷ lines) found e = elim (cases_Bool (is_label name l)) [
      | inl t ↦ ([], sym (some_same (l ∷ lines) found (sym (cond-true (is_label name l) (Some (l ∷ lines)) (from_label name lines) t) ∙ e)))
      | inr f ↦
          let h = label_split name lines found (sym (cond-false (is_label name l) (Some (l ∷ lines)) (from_label name lines) f) ∙ e) in
          (l ∷ h.0, ap (λ x. l ∷ x) h.1)
    ]

    abbrev pub sits_at : (p : WordProc) (lines found : List WordInstr) (name : ℕ) → Sits p lines → from_label name p.lines ≡ Some found →
        Sits p found
    sits_at p lines found name s e =
        let h = label_split name p.lines found e in
        record { tail = s.tail; found = s.found; before = h.0; split = h.1 }

    -- Of each variable that is alive at some lines the word stands at its home, where the frame begins at word j.
    abbrev pub Held : (regs ws : List ℕ) (j : ℕ) → WordProc → (lines : List WordInstr) → Vars → Type 0
    Held regs ws j p lines vars =
        (v w : ℕ) → Alive p.lines v lines → vars v ≡ Some w →
        (v < p.vars) × ((word_at regs ws j (home_of (lay p.number) v) ≡ w) × (w < 2 ^ 32))

    -- Of a call that waits it stands there whatever registers hold, but for the variable that awaits the result, which has another home.
    abbrev pub Rests : (ws : List ℕ) (j : ℕ) → WordFrame → Type 0
    Rests ws j c =
        (v w : ℕ) → Alive c.proc.lines v c.left → v ≢ c.awaits → c.vars v ≡ Some w →
        (v < c.proc.vars) × (((regs : List ℕ) → word_at regs ws j (home_of (lay c.proc.number) v) ≡ w) × (w < 2 ^ 32))

    abbrev pub Apart : WordFrame → Type 0
    Apart c =
        (v : ℕ) → Alive c.proc.lines v c.left → v ≢ c.awaits → v < c.proc.vars →
        home_of (lay c.proc.number) v ≢ home_of (lay c.proc.number) c.awaits

    -- below it stand the arguments that were given
    abbrev pub Gave : (ws : List ℕ) (j : ℕ) → Vars → Type 0
    Gave ws j given = (i w : ℕ) → given i ≡ Some w → (i < MOST_ARGUMENTS) × (word_in ws (j - suc i) ≡ w) × (w < 2 ^ 32)

    -- `need` is what the longest chain takes that a procedure calls, and `total` what a call that counts may take with all that it calls
    module _ (need : WordProc → ℕ) (total : ℕ) (whole : List LabelLine) (at : Addresses) where
      -- so many bytes are enough for the frames and the places of all that a call may call yet, and for arguments
      abbrev pub Deep : (bytes : ℕ) → WordFrame → List WordFrame → Type 0
      Deep bytes c cs = 4 * MOST_ARGUMENTS + (need c.proc + total * (most_calls - counted (c ∷ cs))) ≤ bytes

      -- a caller whose frame begins at word j, of a procedure of that number, whose return address is given and whose places begin at `base`,
      -- where the caller's end; between its places and its frame there are so many bytes more than are left, for the places of calls since
      pub record Waits (ws : List ℕ) (j number return base more : ℕ) (c : WordFrame) (cs : List WordFrame) : Type 0 where
        pub sits : Sits c.proc c.left
        pub last : is_leaf c.proc.lines ≡ true → only_calls c.left ≡ true
        pub behind_call : Within whole (line.Jump 1 (Entry number) ∷ after_call (lay c.proc.number) c.awaits (code_here c.proc c.left sits))
        pub returns : return ≡ at (mark_before (after_call (lay c.proc.number) c.awaits (code_here c.proc c.left sits)))
        pub base_is : base ≡ places_end c
        pub awaits : c.awaits < c.proc.vars
        pub given : c.given ≡ no_words
        pub rests : Rests ws j c
        pub apart : Apart c
        pub deep : Deep (4 * j + more) c cs

      -- the frame of a call begins at word j, and behind it follow those of the callers
      abbrev pub Linked : (ws : List ℕ) (j : ℕ) → WordProc → (base more : ℕ) → List WordFrame → Type 0
      Linked ws j p base more [] = j + size (lay p.number) ≡ words ws
      Linked ws j p base more (c ∷ cs) =
          Waits ws (j + size (lay p.number)) p.number (word_in ws j) base (more + p.room) c cs
          × Linked ws (j + size (lay p.number)) c.proc c.base (more + p.room) cs

      pub linked_inside : (ws : List ℕ) (j : ℕ) (p : WordProc) (base more : ℕ) (cs : List WordFrame) → Linked ws j p base more cs →
          j + size (lay p.number) ≤ words ws
      linked_inside ws j p base more [] h = omega (arith, h)
      linked_inside ws j p base more (c ∷ cs) h = omega (arith, linked_inside ws (j + size (lay p.number)) c.proc c.base (more + p.room) cs h.1)

      -- The frames may stand in other bytes, where places have come or gone in front of them: words other than those of callers and the return
      -- address don't matter.
      pub linked_moved : (ws ws' : List ℕ) (j j' : ℕ) (p : WordProc) (base more more' : ℕ) (cs : List WordFrame) →
          words ws' + j ≡ words ws + j' → 4 * j' + more' ≡ 4 * j + more →
          ((d : ℕ) → (d ≡ 0) ⊎ (size (lay p.number) ≤ d) → word_in ws' (j' + d) ≡ word_in ws (j + d)) → Linked ws j p base more cs →
          Linked ws' j' p base more' cs
      linked_moved ws ws' j j' p base more more' [] long sum same h = omega (arith, h, long)
      linked_moved ws ws' j j' p base more more' (c ∷ cs) long sum same h =
          let x = h.0 in
          let n = size (lay p.number) in
          let next = j + n in
          let next' = j' + n in
          let behind : (d : ℕ) → word_in ws' (next' + d) ≡ word_in ws (next + d) = λ d.
          ap (word_in ws') (let e : next' + d ≡ j' + (n + d) = omega arith in e) ∙ same (n + d) (inr (omega arith))
          ∙ ap (word_in ws) (let e : j + (n + d) ≡ next + d = omega arith in e) in
          let first : word_in ws' j' ≡ word_in ws j =
          ap (word_in ws') (let e : j' ≡ j' + 0 = omega arith in e) ∙ same 0 (inl refl) ∙ ap (word_in ws) (let e : j + 0 ≡ j = omega arith in e) in
          let all : 4 * next + (more + p.room) ≡ 4 * next' + (more' + p.room) = omega (arith, sum) in (
            record {
              sits = x.sits;
              last = x.last;
              behind_call = x.behind_call;
              returns = first ∙ x.returns;
              base_is = x.base_is;
              awaits = x.awaits;
              given = x.given;
              rests = λ v w lives ne e. let y = x.rests v w lives ne e in (
                y.0,
                (
                  (λ regs. word_kept regs ws ws' next next' (home_of (lay c.proc.number) v) behind ∙ y.1.0 regs),
                  y.1.1,
                ),
              );
              apart = x.apart;
              deep = subst (λ n. Deep n c cs) all x.deep;
            },
            linked_moved ws ws' next next' c.proc c.base (more + p.room) (more' + p.room) cs (omega (arith, long)) (sym all) (λ d o. behind d) h.1,
          )

      -- in bytes of the same length
      pub linked_kept : (ws ws' : List ℕ) (j : ℕ) (p : WordProc) (base more : ℕ) (cs : List WordFrame) → length ws' ≡ length ws →
          ((k : ℕ) → (k ≡ j) ⊎ (j + size (lay p.number) ≤ k) → word_in ws' k ≡ word_in ws k) → Linked ws j p base more cs →
          Linked ws' j p base more cs
      linked_kept ws ws' j p base more cs long same h =
          linked_moved ws ws' j j p base more more cs (omega (arith, long)) refl (λ d o. same (j + d) (at_frame d o)) h
        where
          at_frame : (d : ℕ) → (d ≡ 0) ⊎ (size (lay p.number) ≤ d) → (j + d ≡ j) ⊎ (j + size (lay p.number) ≤ j + d)
          at_frame d (inl e) = inl (omega (arith, e))
          at_frame d (inr le) = inr (omega (arith, le))

      -- what is true of word code's state and the words of frames, where the running call's frame begins at word j
      pub record Facts (t : WordState) (lines : List WordInstr) (regs ws : List ℕ) (j : ℕ) : Type 0 where
        pub units : t.units ≡ None
        pub fits : Fits t.memory ws
        pub kept : Regs regs (word_place t.memory j) (places_end t.frame)
        pub sits : Sits t.frame.proc lines
        pub held : Held regs ws j t.frame.proc lines t.frame.vars
        pub given : Gave ws j t.frame.given
        pub linked : Linked ws j t.frame.proc t.frame.base 0 t.callers
        pub leaf : is_leaf t.frame.proc.lines ≡ true → only_calls lines ≡ false → get_or regs 1 0 ≡ word_in ws j
        pub deep : Deep (4 * j) t.frame t.callers
        pub roomy : rooms (t.frame ∷ t.callers) ≤ length t.memory.places

      -- label code's machine is at the lines that are left
      pub record Related (r : LabelRun) (t : WordState) : Type 0 where
        pub regs : List ℕ
        pub ws : List ℕ
        pub j : ℕ
        pub facts : Facts t t.frame.left regs ws j
        pub is : r ≡ run_at regs t.memory ws t.input (code_here t.frame.proc t.frame.left facts.sits)

    -- ---- words at other lines

    -- registers and lines changed, and nothing is alive that wasn't
    pub held_alike : (regs new ws : List ℕ) (j : ℕ) (p : WordProc) (lines more : List WordInstr) (vars : Vars) → IsLaid (lay p.number) p →
        Alike regs new →
        ((v : ℕ) → Alive p.lines v more → Alive p.lines v lines) → Held regs ws j p lines vars → Held new ws j p more vars
    held_alike regs new ws j p lines more vars laid same stays h v w lives e =
        let x = h v w (stays v lives) e in
        (x.0, (word_alike regs new ws j (size (lay p.number)) (home_of (lay p.number) v) (laid.there v x.0) same ∙ x.1.0, x.1.1))

    -- the frame has the same words, wherever it begins
    pub held_moved : (regs ws ws' : List ℕ) (j j' : ℕ) (p : WordProc) (lines : List WordInstr) (vars : Vars) →
        ((d : ℕ) → word_in ws' (j' + d) ≡ word_in ws (j + d)) → Held regs ws j p lines vars → Held regs ws' j' p lines vars
    held_moved regs ws ws' j j' p lines vars same h v w lives e =
        let x = h v w lives e in (x.0, (word_kept regs ws ws' j j' (home_of (lay p.number) v) same ∙ x.1.0, x.1.1))

    -- a word is written
    pub put_held : (new ws : List ℕ) (j : ℕ) (p : WordProc) (rest : List WordInstr) (vars : Vars) (to n : ℕ) → IsLaid (lay p.number) p →
        to < p.vars →
        j + size (lay p.number) ≤ words ws →
        ((v w : ℕ) → Alive p.lines v rest → v ≢ to → vars v ≡ Some w →
        (v < p.vars) × ((word_at new ws j (home_of (lay p.number) v) ≡ w) × (w < 2 ^ 32))) →
        ((v : ℕ) → Alive p.lines v rest → v ≢ to → v < p.vars → home_of (lay p.number) v ≢ home_of (lay p.number) to) →
        HasWord new (home_of (lay p.number) to) (n % 2 ^ 32) →
        Held new (saved ws j (home_of (lay p.number) to) (n % 2 ^ 32)) j p rest (put vars to n)
    put_held new ws j p rest vars to n laid lt inside old apart has v w lives e =
        let h = lay p.number in
        let value = n % 2 ^ 32 in
        let ws' = saved ws j (home_of h to) value in
        elim (cases_eq v to) [
          | inl same ↦
              let is = some_same value w (sym (cond-true (v == to) (Some value) (vars v) (eq-eqb v to same)) ∙ e) in (
                omega (arith, same, lt),
                (
                  ap (λ x. word_at new ws' j (home_of h x)) same
                      ∙ saved_here ws j (size h) inside new (home_of h to) value (laid.there to lt) (omega arith) has ∙ is,
                  omega (arith, is),
                ),
              )
          | inr ne ↦
              let x = old v w lives ne (sym (cond-false (v == to) (Some value) (vars v) (ne_eqb v to ne)) ∙ e) in (
                x.0,
                (
                  saved_apart ws j (size h) inside new (home_of h to) (home_of h v) value (laid.there to lt) (laid.there v x.0) (apart v lives ne x.0)
                      ∙ x.1.0,
                  x.1.1,
                ),
              )
        ]

-- ---- what is given of all code

pub record Setting : Type 0 where
  pub live : Lives
  pub lay : Layout
  pub procs : List WordProc
  pub need : WordProc → ℕ
  pub total : ℕ
  pub at : Addresses
  pub rises : Rise at (marks (start_code (procs_code lay procs)))
  pub laid : (n : ℕ) (q : WordProc) (tail : List WordProc) → from_proc n procs ≡ q ∷ tail → IsLaid (lay q.number) q
  pub alone : OfDataAndHeap live
  pub fits : (n : ℕ) (q : WordProc) (tail : List WordProc) → from_proc n procs ≡ q ∷ tail →
      (lay q.number).frame + q.room + need q ≤ total
  pub chains : (p q : WordProc) (ptail qtail : List WordProc) (before : List WordInstr) (to callee : ℕ) (rest : List WordInstr) →
      from_proc p.number procs ≡ p ∷ ptail → before ++ Call to callee ∷ rest ≡ p.lines → from_proc callee procs ≡ q ∷ qtail →
      is_counted q.kind ≡ false → (lay q.number).frame + q.room + need q ≤ need p

module _ (g : Setting) where
  abbrev pub whole : List LabelLine
  whole = start_code (procs_code g.lay g.procs)

  abbrev pub True : WordState → List WordInstr → List ℕ → List ℕ → ℕ → Type 0
  True t lines regs ws j = Facts g.lay g.procs g.need g.total whole g.at t lines regs ws j

  abbrev pub Rel : LabelRun → WordState → Type 0
  Rel r t = Related g.lay g.procs g.need g.total whole g.at r t

  -- label code does what comes of a line
  abbrev pub Sim : LabelRun → WordState → Next Event WordState → Type 0
  Sim r t x = Does (step g.live whole g.at) Rel (λ t. length t.frame.left) 16 r t x
