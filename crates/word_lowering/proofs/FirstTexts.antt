-- Texts that lines write stand in the memory at the start.
use Rattle.std.proofs.Common.{◌≡◌, inl, inr, ℕ, zero, suc, ◌+◌, ◌*◌, ◌%◌, ◌<◌, ◌≤◌, List, []}
use Rattle.std.proofs.Common.{◌∷◌, ◌++◌, length, take, drop, replicate, append_assoc, Some, Ok, true, refl, ap, subst, ◌∙◌, arith, codes}
use Rattle.std.proofs.lemmas.Bool.{and_parts}
use Rattle.std.specs.Prelude.{slice_get, not}
use Rattle.rv32_isa.specs.declared.micro_op.Size.TheVariants.{Word}
use Rattle.nim_types.specs.declared.types.TypeDef.{TypeDef}
use Rattle.nim_types.specs.declared.types.TypeDef.TheVariants as D
use Rattle.word_code.specs.Memory.{Memory, number_at, bytes_at}
use Rattle.word_lowering.specs.declared.texts.TheConstants.{FIXED_BYTES, LINE_END_AT}
use Rattle.word_lowering.specs.declared.may_lower.TheConstants.{MOST_DATA}
use Rattle.word_lowering.specs.Layouts.{is_empty}
use Rattle.word_lowering.specs.MayLower.{def_may, defs_may, none_empty}
use Rattle.word_lowering.specs.Stored.{base_at, entry_at}
use Rattle.word_lowering.specs.Texts.{missing, padded, members_of, all_names, names_before, names_at, joined_all, ends_from, texts_from}
use Rattle.word_lowering.specs.Lowered.{data_at, lowered}
use Rattle.word_lowering.specs.Runtimes.{with_runtimes}
use Rattle.word_lowering.proofs.FirstMemory.{drop_past, first_memory, own_reads, own, own_length, globals, pad, line_end_first, false_first, true_first}
use Rattle.word_lowering.proofs.FirstNames.{name_among, get_within, joined_before, ends_length, name_stands, name_ends, name_most, past_globals, lengths}
use Rattle.word_lowering.proofs.FirstNames.{behind_is, end_word}
use Rattle.word_lowering.proofs.Options.{none_some, some_same}
use Rattle.word_lowering.proofs.ShapeFacts.{never}
use Rattle.word_lowering.proofs.Sites.{data_end}
use Rattle.word_lowering.proofs.Lines.{Basis}
use Rattle.word_lowering.proofs.TextLines.{TextAt}
use Rattle.word_lowering.proofs.WriteLines.{NameAt}
use Rattle.word_lowering.proofs.WrittenLines.{NamesThere}

-- ---- each name has a character

member_some : (all : List (List ℕ)) (a : ℕ) (text : List ℕ) → none_empty all ≡ true → slice_get all a ≡ Some text → 1 ≤ length text
member_some [] a text may h = absurd (none_some text h)
member_some (name ∷ all) zero text may h =
    by text (subst (λ t. not (is_empty t) ≡ true) (some_same name text h) (and_parts (not (is_empty name)) (none_empty all) may).0)
  where
    by : (text : List ℕ) → not (is_empty text) ≡ true → 1 ≤ length text
    by [] e = never e
    by (c ∷ text) e = omega arith
member_some (name ∷ all) (suc a) text may h = member_some all a text (and_parts (not (is_empty name)) (none_empty all) may).1 h

members_some : (def : TypeDef) (a : ℕ) (text : List ℕ) → def_may def ≡ true → slice_get (members_of def) a ≡ Some text → 1 ≤ length text
members_some (D.Enum name at all) a text may h = member_some all a text (and_parts (not (is_empty all)) (none_empty all) may).1 h
members_some def a text may h = absurd (none_some text h)

name_some : (table : List TypeDef) (i : ℕ) (def : TypeDef) (a : ℕ) (text : List ℕ) → defs_may table ≡ true → slice_get table i ≡ Some def
    → slice_get (members_of def) a ≡ Some text → 1 ≤ length text
name_some [] i def a text may at h = absurd (none_some def at)
name_some (d ∷ table) zero def a text may at h =
    members_some def a text (subst (λ e. def_may e ≡ true) (some_same d def at) (and_parts (def_may d) (defs_may table) may).0) h
name_some (d ∷ table) (suc i) def a text may at h = name_some table i def a text (and_parts (def_may d) (defs_may table) may).1 at h

module _ (x : Basis) (heap stack : ℕ) (is : x.first ≡ first_memory (with_runtimes x.runtimes (lowered x.table x.blocks)) heap stack)
    (least : FIXED_BYTES ≤ globals x.table x.blocks) (whole : globals x.table x.blocks % 4 ≡ 0) (most : length (own x.table x.blocks) ≤ MOST_DATA) where
  abbrev start : Memory
  start = first_memory (with_runtimes x.runtimes (lowered x.table x.blocks)) heap stack

  abbrev names : List (List ℕ)
  names = all_names x.table

  -- what each program has stands in front
  short : 20 ≤ length (own x.table x.blocks)
  short = let l = own_length x.table x.blocks in omega (arith, l)

  pub line_end_there : TextAt x LINE_END_AT (10 ∷ [])
  line_end_there = record {
    is_text = (inl (omega arith, omega arith), inl (omega (arith, short)));
    small = omega arith;
    bytes = ap (λ m. bytes_at m (data_at + 4) 1) is ∙ line_end_first x.table x.blocks x.runtimes heap stack;
  }

  -- bytes that stand in the data at the start
  pub text_bytes : (i : ℕ) (text : List ℕ) → i + length text ≤ length (own x.table x.blocks) → take (length text) (drop i (own x.table x.blocks))
      ≡ text
      → bytes_at start (data_at + i) (length text) ≡ Some text
  text_bytes i [] within stands = refl
  text_bytes i (c ∷ text) within stands =
      own_reads x.table x.blocks x.runtimes heap stack i (suc (length text)) (omega arith) within ∙ ap Some stands

  name_there : (i : ℕ) (text : List ℕ) → slice_get names i ≡ Some text → TextAt x
      (names_at x.table (globals x.table x.blocks) + joined_before names i) text
  name_there i text s =
      let from : ℕ = names_at x.table (globals x.table x.blocks) + joined_before names i in
      let l = lengths x.table x.blocks x.runtimes heap stack least whole most in
      let z = name_ends names i text s in
      let m = name_most names (suc i) in
      let e = ends_length 0 (0 + length (joined_all names)) names in
      let texts : List ℕ = texts_from x.table (globals x.table x.blocks) x.blocks.procs ++ pad x.table x.blocks in
      let zeros : List ℕ = replicate (missing (length (joined_all names))) 0 in
      let rest : List ℕ = padded (joined_all names) ++ texts in
      let place : from ≡ globals x.table x.blocks + (length (ends_from 0 names) + joined_before names i) = omega (arith, e) in
      let stands : take (length text) (drop from (own x.table x.blocks)) ≡ text
      = ap (λ j. take (length text) (drop j (own x.table x.blocks))) place
      ∙ ap (take (length text)) (past_globals x.table x.blocks x.runtimes heap stack least whole most (length (ends_from 0 names) + joined_before names i)
      ∙ ap (drop (length (ends_from 0 names) + joined_before names i)) (behind_is x.table x.blocks x.runtimes heap stack least whole most)
      ∙ drop_past (ends_from 0 names) rest (joined_before names i)
      ∙ ap (drop (joined_before names i)) (append_assoc (joined_all names) zeros texts)) ∙ name_stands names i text (zeros ++ texts) s in
      record {
        is_text = (inr (omega arith, omega (arith, l, z, m, most)), inl (omega (arith, l, z, m)));
        small = omega (arith, l, z, m, most);
        bytes = ap (λ n. bytes_at n (data_at + from) (length text)) is ∙ text_bytes from text (omega (arith, l, z, m)) stands;
      }

  pub names_there : defs_may x.table ≡ true → NamesThere x
  names_there may = record { false_text = false_text; true_text = true_text; name = name }
    where
      false_text : TextAt x 8 (codes "false")
      false_text = record {
        is_text = (inl (omega arith, omega arith), inl (omega (arith, short)));
        small = omega arith;
        bytes = ap (λ m. bytes_at m (data_at + 8) 5) is ∙ false_first x.table x.blocks x.runtimes heap stack;
      }

      true_text : TextAt x 16 (codes "true")
      true_text = record {
        is_text = (inl (omega arith, omega arith), inl (omega (arith, short)));
        small = omega arith;
        bytes = ap (λ m. bytes_at m (data_at + 16) 4) is ∙ true_first x.table x.blocks x.runtimes heap stack;
      }

      name : (ty : ℕ) (def : TypeDef) → entry_at x.table ty ≡ Some def → (a : ℕ) (text : List ℕ) → slice_get (members_of def) a ≡ Some text
          → NameAt x (data_end x.table x.blocks + 4 * names_before x.table (base_at x.table ty)) (names_at x.table (data_end x.table x.blocks)) a text
      name ty def at a text h =
          let before : ℕ = names_before x.table (base_at x.table ty) in
          let i : ℕ = before + a in
          let s : slice_get names i ≡ Some text = name_among x.table (base_at x.table ty) def a text at h in
          let w : i < length names = get_within names i text s in
          let l = lengths x.table x.blocks x.runtimes heap stack least whole most in
          let p : ℕ = data_at + (data_end x.table x.blocks + 4 * before + 4 * a) in
          let first : p ≡ data_at + (globals x.table x.blocks + 4 * i) = omega arith in
          let second : p + 4 ≡ data_at + (globals x.table x.blocks + 4 * suc i) = omega arith in
          record {
            from = joined_before names i;
            some = name_some x.table (base_at x.table ty) def a text may at h;
            here = name_there i text s;
            begins = ap (λ m. number_at m p Word) is ∙ ap (λ q. number_at start q Word) first
                ∙ end_word x.table x.blocks x.runtimes heap stack least whole most i (omega (arith, w));
            begins_text = (inr (omega arith, omega (arith, l, w, most)), inl (omega (arith, l, w)));
            closes = ap (λ m. number_at m (p + 4) Word) is ∙ ap (λ q. number_at start q Word) second
                ∙ end_word x.table x.blocks x.runtimes heap stack least whole most (suc i) (omega (arith, w)) ∙ ap Ok (name_ends names i text s);
            closes_text = (inr (omega arith, omega (arith, l, w, most)), inl (omega (arith, l, w)));
            small = omega (arith, l, w, most);
          }
