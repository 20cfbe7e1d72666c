-- Lines that give constants: numbers, and texts that temporaries are other names for.
use Rattle.std.proofs.Common.{append-nil, ◌≡◌, ℕ, ◌+◌, List, [], ◌∷◌, ◌++◌, Option, Some, true, false, ℤ, refl, sym, ap, subst, ◌∙◌, arith, Bool}
use Rattle.std.proofs.Common.{append_assoc, inl}
use Rattle.std.proofs.Common.{inr, length, map, ◌≢◌, ◌⊎◌}
use Rattle.std.specs.Prelude.{nat_eq, ◌||◌}
use Rattle.std.specs.Set.{is_member}
use Rattle.std.proofs.lemmas.Cmp.{nat_list_eq_equiv}
use Rattle.std.proofs.lemmas.Bool.{and_parts, eqb-true}
use Rattle.nim_types.specs.Table.{type_at, facts_in}
use Rattle.nim_types.specs.Types.{Ty, same_text}
use Rattle.nim_meaning.specs.Values.{Value, Number, Fixed}
use Rattle.flat_code.specs.declared.block.BlockLine.{BlockLine}
use Rattle.flat_code.specs.declared.line.Line.TheVariants as L
use Rattle.flat_code.specs.declared.line.Piece.TheVariants as P
use Rattle.flat_code.specs.Sizes.{lines_texts, texts_in as line_texts}
use Rattle.flat_code.specs.Shapes.{Shape, number, reference, block, elements, row, parts, resource, has_shape, shape_of}
use Rattle.word_code.specs.declared.word.WordInstr.TheVariants.{Constant}
use Rattle.word_lowering.specs.declared.homes.Alias.{Alias}
use Rattle.word_lowering.specs.declared.homes.Alias.TheVariants as alias
use Rattle.word_lowering.specs.Aliases.{is_read, text_alias, texts_of, text_of}
use Rattle.word_lowering.specs.Stored.{is_hooked}
use Rattle.word_lowering.proofs.ConstantFits.{constant_shape, constant_typed}
use Rattle.word_lowering.proofs.HeapKept.{heap_same}
use Rattle.word_lowering.proofs.Keeping.{nowhere, own_text, Kept, New, call, value_no_location, value_no_place, worlds_same, value_no_waiting}
use Rattle.word_lowering.specs.MayLower.{same_alias}
use Rattle.word_lowering.specs.Operations.{word}
use Rattle.word_lowering.specs.LineCode.{constant_at, constant_by, built_code}
use Rattle.word_lowering.specs.OwnedCode.{lent_text_code}
use Rattle.flat_code.specs.Lines.{gives}
use Rattle.flat_code.specs.Running.{scene_of}
use Rattle.nim_meaning.specs.Deeds.{costs, ◌>>=◌, Answers}
use Rattle.nim_meaning.specs.Places.{made_by}
use Rattle.nim_program.specs.declared.operation.Use.{Use}
use Rattle.flat_code.specs.declared.line.UseAt.{UseAt}
use Rattle.word_lowering.proofs.ControlLines.{FollowedHere, plain}
use Rattle.word_lowering.proofs.DistinctTexts.{has_behind}
use Rattle.word_lowering.proofs.Lines.{Basis, Settles, all_procs, known, starts, IsGood, all_sites, changed, good_changed, stands_next, bound_for}
use Rattle.word_lowering.proofs.Lines.{stays_on, waits_below}
use Rattle.word_lowering.proofs.NumberLines.{constant_given, getting, variable}
use Rattle.word_lowering.proofs.OperationRuns.{Given}
use Rattle.word_lowering.proofs.Related.{Both, body_of, high, within, store_of}
use Rattle.word_lowering.proofs.Scenes.{house, of_value, IsLiteral, number_in}
use Rattle.word_lowering.proofs.Settling.{LabelsLead, code_here, code_next, gives_settles}
use Rattle.word_lowering.proofs.ShapeFacts.{never}
use Rattle.word_lowering.proofs.Sites.{around}
use Rattle.word_code.proofs.ForCallers.{at}
use Rattle.word_lowering.proofs.Targets.{target, value_alias}
use Rattle.word_lowering.proofs.ValueFacts.{put_here, in_word, put_away, put_still}
use Rattle.flat_code.specs.Codes.{block_plain}
use Rattle.flat_code.specs.Scene.{Passes, Temps, with_value}
use Rattle.nim_meaning.specs.Table.{constant_for}
use Rattle.nim_types.specs.Forms.{form_of}
use Rattle.nim_program.specs.declared.operation.Use.TheVariants as uses

-- ---- texts of lines

-- the text of a line stands behind those of the lines behind it
text_whole : (before : List BlockLine) (line : BlockLine) (rest : List BlockLine)
    → (after : List ℕ) × (texts_of (map block_plain (before ++ line ∷ rest)) ≡ texts_of (map block_plain rest) ++ (text_of (block_plain line) ++ after))
text_whole [] line rest = ([], ap (λ l. texts_of (map block_plain rest) ++ l) (sym (append-nil (text_of (block_plain line)))))
text_whole (p ∷ before) line rest =
    let h = text_whole before line rest in
    let texts : List ℕ = texts_of (map block_plain rest) in
    let own : List ℕ = text_of (block_plain line) in
    let last : List ℕ = text_of (block_plain p) in (
      h.0 ++ last,
      ap (λ l. l ++ last) h.1 ∙ (append_assoc texts (own ++ h.0) last ∙ ap (λ l. texts ++ l) (append_assoc own h.0 last)),
    )

-- the first text of a line is among all
pub text_among : (line : BlockLine) (text : List ℕ) (more : List (List ℕ)) → line_texts (block_plain line) ≡ text ∷ more → (before rest : List BlockLine)
    → is_member same_text (lines_texts (map block_plain (before ++ line ∷ rest))) text ≡ true
text_among line text more first [] rest =
    ap (λ l. is_member same_text (l ++ lines_texts (map block_plain rest)) text) first
    ∙ ap (λ b. b || is_member same_text (more ++ lines_texts (map block_plain rest)) text) (nat_list_eq_equiv.refl text)
text_among line text more first (p ∷ before) rest =
    has_behind text (line_texts (block_plain p)) (lines_texts (map block_plain (before ++ line ∷ rest))) (text_among line text more first before rest)

abbrev text_behind : Alias → ℕ
text_behind (alias.Text n size) = n
text_behind other = 0

abbrev text_size : Alias → ℕ
text_size (alias.Text n size) = size
text_size other = 0

text_alias_is : (a : Alias) (n size : ℕ) → same_alias a (alias.Text n size) ≡ true → a ≡ alias.Text n size
text_alias_is alias.Own n size h = never h
text_alias_is (alias.Value t) n size h = never h
text_alias_is (alias.Node m) n size h = never h
text_alias_is (alias.Place p true) n size h = never h
text_alias_is (alias.Place p false) n size h = never h
text_alias_is (alias.Text m other) n size h =
    let s = and_parts (nat_eq m n) (nat_eq other size) h in
    ap (λ k. alias.Text k other) (eqb-true m n s.0) ∙ ap (λ k. alias.Text n k) (eqb-true other size s.1)

text_or_own : (a : Alias) (n size : ℕ) → (same_alias a alias.Own || same_alias a (alias.Text n size)) ≡ true → (a ≡ alias.Own) ⊎ (a ≡ alias.Text n size)
text_or_own alias.Own n size h = inl refl
text_or_own (alias.Value t) n size h = never h
text_or_own (alias.Node m) n size h = never h
text_or_own (alias.Place p true) n size h = never h
text_or_own (alias.Place p false) n size h = never h
text_or_own (alias.Text m other) n size h = inr (text_alias_is (alias.Text m other) n size h)

number_of_shape : (z : ℤ) (s : Shape) → has_shape (Number z) s ≡ true → (values : Option ℕ) × (s ≡ number values)
number_of_shape z (number values) h = (values, refl)
number_of_shape z reference h = never h
number_of_shape z block h = never h
number_of_shape z (elements s) h = never h
number_of_shape z (row n s) h = never h
number_of_shape z (parts ss) h = never h
number_of_shape z (resource ss) h = never h

module _ (x : Basis) (labels : LabelsLead x) (g : Both) (rest : List BlockLine) (to : ℕ) (how : UseAt) (ty : ℕ) where
  abbrev to_type : Ty
  to_type = type_at (known x).types ty

  -- ---- a number

  pub number_constant : (z : ℤ) → FollowedHere x labels g rest (L.Constant to how ty (P.Ordinal z ∷ []))
  number_constant z names y =
      let line = plain (L.Constant to how ty (P.Ordinal z ∷ [])) in
      let f = (constant_shape x g rest to how ty (P.Ordinal z ∷ []) y).shaped in
      let t = target x g line rest y to to_type refl refl (constant_typed x g rest to how ty (P.Ordinal z ∷ []) y) names.0 in
      let s = number_of_shape z (shape_of (facts_in x.table) to_type) f in
      let n = getting x g line rest y to to_type s.0 z t s.1 (subst (λ k. has_shape (Number z) k ≡ true) s.1 f) in
      let w = in_word x g.call.site to y.linked.0 n.there n.one in
      let code : code_here x g line rest y ≡ Constant (variable x g line rest y to) (word z) ∷ code_next x g line rest y
      = ap (λ h. built_code (around x.table x.blocks (body_of g)) h ty (house g.call.site (of_value to)) (P.Ordinal z ∷ []) (code_next x g line rest y))
      (x.hooks ty ∙ t.unhooked)
      ∙ ap (λ p. constant_at (house g.call.site (of_value to)) p (P.Ordinal z ∷ []) (code_next x g line rest y)) w.spot
      ∙ ap (λ u. Constant u (word z) ∷ code_next x g line rest y) (sym w.is) in
      subst (λ b. Settles x (starts g line rest) rest (gives (scene_of (high x.table x.blocks (starts g line rest))) to
      (costs 1 (constant_for b (form_of (facts_in x.table) to_type) 0 (Number z)) >>= made_by b (bound_for g how)))) (sym t.unhooked)
      (gives_settles x g line rest y to z (1 + (0 + 0)) (omega arith) n
      (subst (λ l. Given x.live (all_procs x) (within x.table x.blocks g) g.memory g.words l g.call.vars (variable x g line rest y to) (word z)
      (code_next x g line rest y)) (sym code) (constant_given x g line rest y to z n)))

  -- ---- a text

  module _ (text : List ℕ) where
    abbrev naming : BlockLine
    naming = plain (L.Constant to how ty (P.Text text ∷ []))

    abbrev text_temps : Temps
    text_temps = with_value to g.call.temps (Fixed text)

    -- one that is only read is nobody's, and stays where it stands
    module _ (y : IsGood x (starts g naming rest)) (read : is_read how.how ≡ true)
        (named_text : (house g.call.site (of_value to)).alias ≡ alias.Text (length (texts_of (map block_plain rest))) (length text)) where
      abbrev behind_here : ℕ
      behind_here = length (texts_of (map block_plain rest))

      literal : IsLiteral (body_of g) behind_here (length text) (Fixed text)
      literal =
          let w = text_whole y.stands.before naming rest in
          record {
            text = text;
            is = refl;
            size = refl;
            before = texts_of (map block_plain rest);
            after = w.0;
            whole = ap (λ l. texts_of (map block_plain l)) y.stands.whole ∙ w.1;
            at = refl;
            among = ap (λ l. is_member same_text (lines_texts (map block_plain l)) text) y.stands.whole
                ∙ text_among naming text [] refl y.stands.before rest;
          }

      different : (u : ℕ) → (g.call.site.level ≢ g.call.site.level) ⊎ (of_value u ≢ of_value to) → u ≢ to
      different u (inl ne) e = ne refl
      different u (inr ne) e = ne (ap of_value e)

      kept_text : Kept x.table x.blocks x.small (all_sites x g naming rest y) y.linked g.call.site (of_value to) g.call.site g.call.temps text_temps
          g.call.vars g.call.vars
      kept_text = record {
        values = λ u i away. put_away x g naming rest y to (Fixed text) u (different u away);
        places = λ u away. refl;
        texts = λ u n k i e away. put_away x g naming rest y to (Fixed text) u (different u away);
        still = λ u w l h. put_still x g naming rest y to (Fixed text) u w h;
        variables = λ f u i away home. refl;
        left = refl;
      }

      new_text : New x.table x.blocks x.small (all_sites x g naming rest y) y.linked g.call.site (of_value to) (store_of g) g.world
          (all_sites x g naming rest y) (call g.call.site text_temps g.call.vars)
      new_text = record {
        item = λ u i h. own_text g.call.site (of_value to) behind_here (length text) i named_text;
        text = λ u n k w e a h. as_literal u n k w (ap number_in e) a h;
        led = λ u other e n h. absurd (value_no_location to u (sym e));
        filled = λ n e h. absurd (value_no_place to n (sym e));
        waits = λ n e. absurd (value_no_waiting to n (sym e));
      }
        where
          as_literal : (u n k : ℕ) (w : Value) → u ≡ to → (house g.call.site (of_value u)).alias ≡ alias.Text n k → text_temps.values u ≡ Some w
              → IsLiteral (body_of g) n k w
          as_literal u n k w e a h =
              let same : alias.Text n k ≡ alias.Text behind_here (length text)
              = sym a ∙ (ap (λ v. (house g.call.site (of_value v)).alias) e ∙ named_text) in
              let value_is = put_here x g naming rest y to (Fixed text) w (subst (λ v. text_temps.values v ≡ Some w) e h) in
              subst (λ v. IsLiteral (body_of g) n k v) value_is
              (subst (λ m. IsLiteral (body_of g) m k (Fixed text)) (sym (ap text_behind same))
              (subst (λ m. IsLiteral (body_of g) behind_here m (Fixed text)) (sym (ap text_size same)) literal))

      good_text : IsGood x (changed g rest text_temps g.call.vars g.memory g.words g.awaits g.world)
      good_text =
          good_changed x g naming rest y rest g.call.site (of_value to) text_temps g.call.vars g.memory g.words g.awaits g.world
          y.memory (heap_same g.memory) (refl, refl) (nowhere refl)
          (worlds_same x.table x.blocks x.small (all_sites x g naming rest y) y.linked g.call.site (of_value to) g.world)
          kept_text (λ e. new_text) (λ c from i e. absurd (waits_below x g naming rest y c i e)) y.frames y.levels
          (stands_next x.table x.blocks (body_of g) naming rest y.stands)

      -- whatever is made of it
      pub text_named : Settles x (starts g naming rest) rest (Passes (Answers [] 1 text_temps g.world))
      text_named =
          stays_on x (starts g naming rest) (changed g rest text_temps g.call.vars g.memory g.words g.awaits g.world) rest good_text 1 text_temps g.world
          (sym (ap (λ b. at (within x.table x.blocks g) g.memory
          (constant_by (around x.table x.blocks (body_of g)) b (is_hooked x.table ty) (Some text) ty (house g.call.site (of_value to)) (P.Text text ∷ [])
          (code_next x g naming rest y))
          g.call.vars g.words) read
          ∙ ap (λ a. at (within x.table x.blocks g) g.memory
          (lent_text_code (around x.table x.blocks (body_of g)) a (house g.call.site (of_value to)).home text (code_next x g naming rest y))
          g.call.vars g.words) named_text)) refl (omega arith)

    -- it has that other name, or a home
    pub named_or_own : (y : IsGood x (starts g naming rest)) → is_read how.how ≡ true → ((house g.call.site (of_value to)).alias ≡ alias.Own)
        ⊎ ((house g.call.site (of_value to)).alias ≡ alias.Text (length (texts_of (map block_plain rest))) (length text))
    named_or_own y read =
        text_or_own (house g.call.site (of_value to)).alias (length (texts_of (map block_plain rest))) (length text)
        (value_alias x g naming rest y to (alias.Text (length (texts_of (map block_plain rest))) (length text)) refl
        (ap (λ b. text_alias b (length (texts_of (map block_plain rest))) (Some text)) read))

    -- as a line says it
    pub read_text : (y : IsGood x (starts g naming rest)) → is_read how.how ≡ true
        → Settles x (starts g naming rest) rest (Passes (Answers [] 1 text_temps g.world)) → (hooked : Bool)
        → Settles x (starts g naming rest) rest (gives (scene_of (high x.table x.blocks (starts g naming rest))) to
        (costs 1 (constant_for hooked (form_of (facts_in x.table) to_type) 0 (Fixed text)) >>= made_by hooked (bound_for g how)))
    read_text y read settles hooked =
        subst (λ d. Settles x (starts g naming rest) rest d) (made_text hooked how.how read) settles
      where
        made_text : (b : Bool) (use_here : Use) → is_read use_here ≡ true → Passes (Answers [] 1 text_temps g.world)
            ≡ gives (scene_of (high x.table x.blocks (starts g naming rest))) to
            (costs 1 (constant_for b (form_of (facts_in x.table) to_type) 0 (Fixed text))
            >>= made_by b (record { how = use_here; level = g.call.site.level; node = how.node }))
        made_text false use_here h = refl
        made_text true uses.Lent h = refl
        made_text true uses.Owned h = never h
        made_text true uses.Given h = never h
        made_text true uses.Held h = never h
        made_text true uses.Looked h = refl
