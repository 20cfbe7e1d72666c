-- Images of label code.
use Rattle.std.proofs.Common.{◌≡◌, ℕ, suc, ◌+◌, ◌%◌, ◌<◌, ◌≤◌, List, [], ◌∷◌, ◌++◌, length, drop, Bool}
use Rattle.std.proofs.Common.{true, false, Option, Some, None, inl, inr}
use Rattle.std.proofs.Common.{refl, sym, ap, subst, ◌∙◌, arith, append_assoc, append-nil, length-append}
use Rattle.std.specs.List.{slice_index_or}
use Rattle.std.proofs.lemmas.List.{drop_all, length-drop}
use Rattle.std.proofs.lemmas.Bool.{and_parts, cases_Bool, cond-false}
use Rattle.arc_base.specs.Behaviour.{Agrees}
use Rattle.arc_base.specs.Pace.{Paced}
use Rattle.rv32_isa.specs.declared.instr.Instr.{Instr}
use Rattle.rv32_isa.specs.declared.instr.Instr.TheVariants.{Jal}
use Rattle.rv32_isa.specs.declared.image.HookAt.{HookAt}
use Rattle.rv32_isa.specs.declared.label.Test.{Test}
use Rattle.rv32_isa.specs.declared.label.LabelName.{LabelName}
use Rattle.rv32_isa.specs.declared.label.LabelLine.{LabelLine}
use Rattle.rv32_isa.specs.declared.label.LabelLine.TheVariants.{Label, Do, Jump, Branch}
use Rattle.rv32_isa.specs.declared.label.HookLabel.{HookLabel}
use Rattle.rv32_isa.specs.Words.{word_bytes}
use Rattle.rv32_isa.specs.Row.{bytes_of}
use Rattle.rv32_isa.specs.Hooks.{HooksStand, code_at}
use Rattle.rv32_isa.specs.Image.{Image}
use Rattle.rv32_isa.specs.Machine.{Lives, machine}
use Rattle.rv32_isa.specs.Labels.{AreLines, is_instruction, has_instruction, hooks_lead}
use Rattle.rv32_isa.specs.LabelsMeaning.{OfDataAndHeap, label_meaning}
use Rattle.rv32_isa.proofs.ForCallers.{length-word_bytes}
use Rattle.word_code.specs.Memory.{data_of}
use Rattle.rv32_codegen.specs.Layout.{Far, size, too_far, code_size, laid_at, laid, instrs, hook_of, entry, hook_table, code_bytes, laid_out, is_none}
use Rattle.rv32_codegen.specs.Layout.{enters_no_hook}
use Rattle.rv32_codegen.specs.Layout.{target, distance, branched, DoesCode}
use Rattle.rv32_codegen.proofs.LayoutSizes.{line_least, size_four, reach_all}
use Rattle.rv32_codegen.proofs.LayoutMarks.{mark_at, marks_rise}
use Rattle.rv32_codegen.proofs.LayoutHooks.{hooks_stand}
use Rattle.rv32_codegen.proofs.LayoutPlaces.{drop_here}
use Rattle.rv32_codegen.proofs.Laid.{length-bytes, image_agrees, image_paced}

-- the bytes of instructions that follow others
pub bytes-append : (is js : List Instr) → code_bytes (is ++ js) ≡ code_bytes is ++ code_bytes js
bytes-append [] js = refl
bytes-append (i ∷ is) js = ap (λ l. bytes_of i ++ l) (bytes-append is js) ∙ sym (append_assoc (bytes_of i) (code_bytes is) (code_bytes js))

-- one turn of the loop that adds the bytes of lines
pub bytes_turn : (code : List LabelLine) (i : ℕ) (line d : LabelLine) (first old new : List ℕ) → i < length code →
    line ≡ slice_index_or code i d →
    old ++ code_bytes (instrs (too_far code) code (drop i code)) ≡ first →
    new ≡ old ++ code_bytes (laid (too_far code) code line (drop (i + 1) code)) →
    new ++ code_bytes (instrs (too_far code) code (drop (i + 1) code)) ≡ first
bytes_turn code i line d first old new lt e before is =
    let rest = drop (i + 1) code in
    let front = laid (too_far code) code line rest in
    let back = instrs (too_far code) code rest in
    ap (λ l. l ++ code_bytes back) is ∙ append_assoc old (code_bytes front) (code_bytes back) ∙ ap (λ l. old ++ l) (sym (bytes-append front back)) ∙
    ap (λ l. old ++ code_bytes (instrs (too_far code) code l)) (sym (drop_here code i line d lt e)) ∙ before

pub lines_turn : (code : List LabelLine) (i : ℕ) (line d : LabelLine) → i < length code → line ≡ slice_index_or code i d →
    AreLines (drop i code) →
    AreLines (line ∷ drop (i + 1) code)
lines_turn code i line d lt e h = subst AreLines (drop_here code i line d lt e) h

-- ---- hooks

-- the table from lines on
abbrev pub hooks_from : List LabelLine → List LabelLine → List HookAt
hooks_from code lines = hook_table (too_far code) code lines

pub hooks_turn : (code : List LabelLine) (i : ℕ) (line d : LabelLine) (found old : List HookAt) → i < length code →
    line ≡ slice_index_or code i d →
    old ++ hooks_from code (drop i code) ≡ found → old ++ hooks_from code (line ∷ drop (i + 1) code) ≡ found
hooks_turn code i line d found old lt e h = ap (λ l. old ++ hooks_from code l) (sym (drop_here code i line d lt e)) ∙ h

-- ---- sizes

some_bytes : (far : Far) (lines : List LabelLine) → has_instruction lines ≡ true → 4 ≤ size far lines
some_bytes far [] e = absurd (no e)
  where
    no : false ≡ true → ⊥
    no e = cc
some_bytes far (line ∷ lines) e = elim (cases_Bool (is_instruction line)) [
  | inl t ↦ let least = line_least (far (line ∷ lines)) line t in omega (arith, least)
  | inr f ↦ omega (arith, some_bytes far lines (sym (cond-false (is_instruction line) true (has_instruction lines) f) ∙ e))
]

pub data_long : (heap stack : ℕ) (statics : List ℕ) → length (data_of heap stack statics) ≡ 8 + length statics
data_long heap stack statics =
    omega (
      arith,
      length-append (word_bytes heap) (word_bytes stack ++ statics),
      length-append (word_bytes stack) statics,
      length-word_bytes heap,
      length-word_bytes stack,
    )

-- what an image's code and hooks have to be
pub record Fitting (code : List LabelLine) (bytes : List ℕ) (hooks : List HookAt) : Type 0 where
  pub long : length bytes ≡ code_size code
  pub whole : length bytes % 4 ≡ 0
  pub least : 4 ≤ length bytes
  pub most : length bytes ≤ 524288
  pub stand : HooksStand (length bytes) code_at hooks

pub fitting : (code : List LabelLine) (bytes : List ℕ) (hooks : List HookAt) → code_size code ≤ 524288 → has_instruction code ≡ true →
    hooks_lead code ≡ true →
    bytes ≡ code_bytes (instrs (too_far code) code code) → hooks ≡ hook_table (too_far code) code code → Fitting code bytes hooks
fitting code bytes hooks small some leading is are =
    let far = too_far code in
    let long : length bytes ≡ code_size code = ap length is ∙ length-bytes far code small in
    let four = size_four far code in
    let least = some_bytes far code some in
    let stand : HooksStand (size far code) code_at (hook_table far code code) = hooks_stand far code code code_at (omega arith) leading (omega arith) in
    record {
      long = long;
      whole = omega (arith, long, four);
      least = omega (arith, long, least);
      most = omega (arith, long, small);
      stand = subst (λ n. HooksStand n code_at hooks) (sym long) (subst (λ l. HooksStand (size far code) code_at l) (sym are) stand);
    }

-- ---- what it does

pub does_code : (live : Lives) → OfDataAndHeap live → (image : Image) (code : List LabelLine) (statics : List ℕ) (heap stack : ℕ) →
    AreLines code →
    hooks_lead code ≡ true → code_size code ≤ 524288 → image ≡ laid_out code statics heap stack →
    DoesCode live image code (data_of heap stack statics) heap stack
does_code live sees image code statics heap stack lines leading small is =
    let far = too_far code in
    let at = mark_at far code in
    let all = data_of heap stack statics in (
      at,
      marks_rise far code small,
      λ input ok. (
        subst (λ i. Agrees (machine live i input) (label_meaning live code at all heap stack input)) (sym is)
            (image_agrees live sees far code small lines (reach_all code) leading all heap stack input ok),
        subst (λ i. Paced 2 (machine live i input) (label_meaning live code at all heap stack input)) (sym is)
            (image_paced live sees far code small lines (reach_all code) leading all heap stack input ok),
      ),
    )

-- an image is known by its fields
pub image_is : (image : Image) (code statics : List ℕ) (heap stack : ℕ) (hooks : List HookAt) → image.code ≡ code → image.statics ≡ statics →
    image.heap ≡ heap → image.stack ≡ stack → image.hooks ≡ hooks →
    image ≡ record { code = code; statics = statics; heap = heap; stack = stack; hooks = hooks }
image_is image code statics heap stack hooks a b c d e =
    ap (λ x. record image { code = x }) a ∙ ap (λ x. record image { code = code; statics = x }) b ∙
    ap (λ x. record image { code = code; statics = statics; heap = x }) c ∙
    ap (λ x. record { code = code; statics = statics; heap = heap; stack = x; hooks = image.hooks }) d ∙
    ap (λ x. record { code = code; statics = statics; heap = heap; stack = stack; hooks = x }) e

-- ---- the hook of a line

pub hook_put : (code lines : List LabelLine) (line : LabelLine) (hook : HookLabel) (at : ℕ) (old : List HookAt) → hook_of line ≡ Some hook →
    at ≡ laid_at (too_far code) code (line ∷ lines) →
    (old ++ record { kind = hook.kind; of = hook.of; addr = at } ∷ []) ++ hooks_from code lines ≡ old ++ hooks_from code (line ∷ lines)
hook_put code lines line hook at old e is =
    append_assoc old (record { kind = hook.kind; of = hook.of; addr = at } ∷ []) (hooks_from code lines) ∙
    ap (λ n. old ++ entry (too_far code) code (Some hook) n (hooks_from code lines)) is ∙
    ap (λ o. old ++ entry (too_far code) code o (laid_at (too_far code) code (line ∷ lines)) (hooks_from code lines)) (sym e)

pub no_hook : (code lines : List LabelLine) (line : LabelLine) (old : List HookAt) → hook_of line ≡ None →
    old ++ hooks_from code lines ≡ old ++ hooks_from code (line ∷ lines)
no_hook code lines line old e = ap (λ o. old ++ entry (too_far code) code o (laid_at (too_far code) code (line ∷ lines)) (hooks_from code lines)) (sym e)

-- ---- the loops over lines

-- so many lines are left
pub count_left : (code : List LabelLine) (i left : ℕ) → left + i ≡ length code → i < length code → left ≡ suc (length (drop (i + 1) code))
count_left code i left e lt = let long = length-drop (i + 1) code in omega (arith, e, lt, long)

pub bytes_end : (code : List LabelLine) (i : ℕ) (bytes all : List ℕ) → length code ≤ i →
    bytes ++ code_bytes (instrs (too_far code) code (drop i code)) ≡ all → bytes ≡ all
bytes_end code i bytes all le e =
    sym (append-nil bytes) ∙ ap (λ l. bytes ++ code_bytes (instrs (too_far code) code l)) (sym (drop_all i code le)) ∙ e

pub hooks_end : (code : List LabelLine) (i : ℕ) (hooks all : List HookAt) → length code ≤ i → hooks ++ hooks_from code (drop i code) ≡ all →
    hooks ≡ all
hooks_end code i hooks all le e = sym (append-nil hooks) ∙ ap (λ l. hooks ++ hooks_from code l) (sym (drop_all i code le)) ∙ e

-- ---- the bytes of a line

pub one_instr : (i : Instr) (old new : List ℕ) → new ≡ old ++ bytes_of i → new ≡ old ++ code_bytes (i ∷ [])
one_instr i old new e = e ∙ ap (λ l. old ++ l) (sym (append-nil (bytes_of i)))

pub two_instrs : (i j : Instr) (old mid new : List ℕ) → mid ≡ old ++ code_bytes (i ∷ []) → new ≡ mid ++ code_bytes (j ∷ []) →
    new ≡ old ++ code_bytes (i ∷ j ∷ [])
two_instrs i j old mid new e f =
    f ∙ ap (λ l. l ++ code_bytes (j ∷ [])) e ∙ append_assoc old (code_bytes (i ∷ [])) (code_bytes (j ∷ [])) ∙
    ap (λ l. old ++ l) (sym (bytes-append (i ∷ []) (j ∷ [])))

module _ (code lines : List LabelLine) (line : LabelLine) (old new : List ℕ) where
  abbrev far : Far
  far = too_far code

  -- what is added for the line
  abbrev Added : LabelLine → Type 0
  Added l = new ≡ old ++ code_bytes (laid far code l lines)

  pub label_added : (name : LabelName) (hook : Option HookLabel) → line ≡ Label name hook → new ≡ old → Added line
  label_added name hook e is = subst Added (sym e) (is ∙ sym (append-nil old))

  pub instr_added : (i : Instr) → line ≡ Do i → new ≡ old ++ code_bytes (i ∷ []) → Added line
  instr_added i e is = subst Added (sym e) is

  pub jump_added : (rd from at : ℕ) (to : LabelName) → line ≡ Jump rd to → from ≡ laid_at far code (line ∷ lines) →
      at ≡ target far code to →
      new ≡ old ++ code_bytes (Jal rd (distance 21 from at) ∷ []) → Added line
  jump_added rd from at to e f g is =
      subst (λ l. from ≡ laid_at far code (l ∷ lines) → Added l) (sym e)
      (λ h. is ∙ ap (λ n. old ++ code_bytes (Jal rd (distance 21 n at) ∷ [])) h ∙
      ap (λ n. old ++ code_bytes (Jal rd (distance 21 (laid_at far code (Jump rd to ∷ lines)) n) ∷ [])) g) f

  pub branch_added : (is_far : Bool) (t : Test) (left right from at : ℕ) (to : LabelName) → line ≡ Branch t left right to →
      is_far ≡ far (line ∷ lines) →
      from ≡ laid_at far code (line ∷ lines) → at ≡ target far code to → new ≡ old ++ code_bytes (branched is_far t left right from at) →
      Added line
  branch_added is_far t left right from at to e b f g is =
      subst (λ l. is_far ≡ far (l ∷ lines) → from ≡ laid_at far code (l ∷ lines) → Added l) (sym e)
      (λ c h.
      let l = Branch t left right to in
      is ∙ ap (λ x. old ++ code_bytes (branched x t left right from at)) c ∙
      ap (λ n. old ++ code_bytes (branched (far (l ∷ lines)) t left right n at)) h ∙
      ap (λ n. old ++ code_bytes (branched (far (l ∷ lines)) t left right (laid_at far code (l ∷ lines)) n)) g) b f

-- ---- code without hooks

no_entry : (far : Far) (whole : List LabelLine) (o : Option HookLabel) (at : ℕ) (others : List HookAt) → is_none o ≡ true →
    entry far whole o at others ≡ others
no_entry far whole None at others h = refl
no_entry far whole (Some hook) at others h = absurd (false_true h)
  where
    false_true : false ≡ true → ⊥
    false_true e = cc

none_in : (far : Far) (whole lines : List LabelLine) → enters_no_hook lines ≡ true → hook_table far whole lines ≡ []
none_in far whole [] h = refl
none_in far whole (line ∷ lines) h =
    let p = and_parts (is_none (hook_of line)) (enters_no_hook lines) h in
    no_entry far whole (hook_of line) (laid_at far whole (line ∷ lines)) (hook_table far whole lines) p.0 ∙ none_in far whole lines p.1

pub no_table : (code : List LabelLine) (statics : List ℕ) (heap stack : ℕ) → enters_no_hook code ≡ true → (laid_out code statics heap stack).hooks ≡ []
no_table code statics heap stack h = none_in (too_far code) code code h
