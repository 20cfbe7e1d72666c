-- Constants that are built: zeros, and then the words that are no zeros. What the line does is followed.
use Rattle.std.proofs.Common.{Bool, ◌≡◌, inl, inr, ℕ, zero, suc, ◌+◌, ◌*◌, ◌%◌, ◌^◌, ◌<◌, ◌≤◌, List, [], ◌∷◌}
use Rattle.word_lowering.specs.Stored.{is_hooked}
use Rattle.word_lowering.proofs.ConstantFits.{FitsShape, constant_shape, constant_typed, plain_pieces}
use Rattle.word_lowering.proofs.Options.{none_some}
use Rattle.std.proofs.Common.{Some, None, Ok, ℤ, true, false, refl, sym, pos}
use Rattle.std.proofs.Common.{ap, ap₂, subst, ◌∙◌, arith}
use Rattle.nim_types.specs.Forms.{or_word, form_of}
use Rattle.nim_types.specs.Table.{facts_in, type_at}
use Rattle.nim_types.specs.Types.{Ty}
use Rattle.flat_code.specs.declared.line.UseAt.{UseAt}
use Rattle.nim_meaning.specs.Values.{Value, Number, Parts, Handle, Fixed, Ref, Resource, Gone, Vacant, Values, Nil, More, bytes, bytes_all}
use Rattle.nim_meaning.specs.Deeds.{Answers, costs, ◌>>=◌}
use Rattle.nim_meaning.specs.Places.{made_by}
use Rattle.rv32_isa.specs.declared.micro_op.Size.TheVariants.{Word as whole}
use Rattle.flat_code.specs.declared.block.BlockLine.{BlockLine}
use Rattle.flat_code.specs.declared.line.Line.TheVariants as L
use Rattle.flat_code.specs.declared.line.Piece.{Piece}
use Rattle.flat_code.specs.declared.line.Piece.TheVariants as P
use Rattle.flat_code.specs.Lines.{gives}
use Rattle.flat_code.specs.Running.{scene_of}
use Rattle.flat_code.specs.Scene.{Passes, with_value}
use Rattle.word_code.specs.declared.word.WordInstr.{WordInstr}
use Rattle.word_code.specs.declared.word.WordInstr.TheVariants.{Constant, Store}
use Rattle.word_code.specs.Memory.{Memory, number_at, with_number}
use Rattle.word_code.specs.Words.{Vars, put}
use Rattle.flat_code.specs.Pieces.{value_of, pieces_bytes, piece_words}
use Rattle.flat_code.specs.Shapes.{has_shape, shape_of}
use Rattle.word_lowering.proofs.ShapeFacts.{of_numbers, values_of_numbers, number_numbers}
use Rattle.word_code.proofs.ForCallers.{put_here, Changed, changed_word, Runs, then_runs, at as run_at, run_constant, run_store, got}
use Rattle.word_lowering.specs.declared.homes.TheConstants.{FIRST, SECOND}
use Rattle.word_lowering.specs.declared.homes.Home.{Home}
use Rattle.word_lowering.specs.declared.homes.Housed.{Housed}
use Rattle.word_lowering.specs.declared.spots.Spot.TheVariants.{Lies}
use Rattle.word_lowering.specs.Aliases.{is_read, text_in, text_alias}
use Rattle.word_lowering.specs.Layouts.{holds_address}
use Rattle.word_lowering.specs.Spots.{spot_of, shifted, cleared}
use Rattle.word_lowering.specs.Operations.{word}
use Rattle.word_lowering.specs.declared.homes.Alias.TheVariants as alias
use Rattle.word_lowering.specs.LineCode.{Around, unless_zero, pieces_code, first_word, constant_at, constant_by}
use Rattle.word_lowering.proofs.AddressFacts.{in_memory}
use Rattle.word_lowering.proofs.InMemory.{AreAt, AreZero, OfNumbers, all_carried, bytes_some, or_word_is}
use Rattle.word_lowering.proofs.RoutineCalls.{awaiting}
use Rattle.word_lowering.proofs.OrdinalRuns.{put_here as var_here, but_one}
use Rattle.word_lowering.proofs.Arithmetic.{word_small}
use Rattle.word_lowering.proofs.Clears.{zeros_by}
use Rattle.word_lowering.proofs.ConstantWords.{number_constant}
use Rattle.word_lowering.proofs.Moves.{ToVariable, address_runs, all_same, is_single, same_first, same_more, same_second}
use Rattle.word_lowering.proofs.LineFits.{number_fits, single_is}
use Rattle.word_lowering.proofs.Sites.{InMemory, around}
use Rattle.word_lowering.proofs.Scenes.{address_of, Points, of_value, house, IsThere, looked}
use Rattle.word_lowering.proofs.Keeping.{spot_memory, points_there}
use Rattle.word_lowering.proofs.Related.{Both, body_of, high, within}
use Rattle.word_lowering.proofs.Lines.{Basis, Settles, all_procs, known, starts, IsGood, all_sites, bound_for}
use Rattle.word_lowering.proofs.ValueFacts.{value_plain, InWord, in_word}
use Rattle.word_lowering.proofs.ControlLines.{FollowedHere, plain}
use Rattle.word_lowering.proofs.Sources.{Lying, lying_all, lying_area, lying_near, size_is, word_is, address_whole}
use Rattle.word_lowering.proofs.Gets.{Gets, memory_kept, gets_word, gets_bytes, value_settles}
use Rattle.word_lowering.proofs.PartRuns.{changed_same, changed_both, more_most, shifted_inside, shifted_address, Sofar}
use Rattle.word_lowering.proofs.PieceWords.{PiecesAre, one_number, one_text, built, pieces_are, words_in, room_of, words_room, WordsAt}
use Rattle.word_lowering.proofs.PieceWords.{by_words, words_are}
use Rattle.word_lowering.proofs.SmallWords.{AllSmall, small_words}
use Rattle.word_lowering.proofs.Settling.{LabelsLead, code_here, code_next}
use Rattle.word_lowering.proofs.Targets.{target, texts_behind}
use Rattle.nim_meaning.specs.Table.{constant_for}

-- as many zeros
abbrev zeros_of : List ℕ → Values
zeros_of [] = Nil
zeros_of (w ∷ ws) = More (Number (pos 0)) (zeros_of ws)

zeros_zero : (ws : List ℕ) → AreZero (zeros_of ws)
zeros_zero [] = tt
zeros_zero (w ∷ ws) = (refl, zeros_zero ws)

zeros_room : (ws : List ℕ) → bytes_all (zeros_of ws) ≡ room_of ws
zeros_room [] = refl
zeros_room (w ∷ ws) = let e = zeros_room ws in omega (arith, e)

module _ (x : Basis) (g : Both) (line : BlockLine) (rest : List BlockLine) (y : IsGood x (starts g line rest)) (to : ℕ)
    (there : IsThere g.call.site (of_value to)) (inside : InMemory (house g.call.site (of_value to)).home) where
  abbrev place : Housed
  place = house g.call.site (of_value to)

  abbrev start : ℕ
  start = address_of g.call.site.base place.home

  abbrev So : (lines k : List WordInstr) → ℕ → Type 0
  So lines k most = Sofar x g line rest y to there inside lines k most

  record WordsAfter (m : Memory) (before : ℕ) (lines k : List WordInstr) (a : ℕ) (ws : List ℕ) (most : ℕ) : Type 0 where
    pub sofar : So lines k most
    pub changed : Changed m sofar.memory a (room_of ws)
    pub are_at : WordsAt sofar.memory a ws
    pub more : before ≤ sofar.steps

  -- a word where a zero is
  word_written : (home : Home) → InMemory home → (a : ℕ) → a ≡ address_of g.call.site.base home → start ≤ a → a + 4 ≤ start + place.bytes
      → a % 4 ≡ 0
      → (n : ℕ) → n < 2 ^ 32 → (lines k : List WordInstr) (most : ℕ) → (s : So lines (unless_zero home n k) most)
      → number_at s.memory a whole ≡ Ok 0
      → WordsAfter s.memory s.steps lines k a (n ∷ []) (most + 3)
  word_written home at_home a is low high by_four zero small lines k most s blank = record {
    sofar = more_most x g line rest y to there inside lines k most (most + 3) (omega arith) s;
    changed = changed_same s.memory a 4 s.good.sized;
    are_at = (blank, tt);
    more = omega arith;
  }
  word_written home at_home a is low high by_four (suc n) small lines k most s blank =
      let w : ℕ = suc n in
      let lying : Lying x (all_sites x g line rest y) y.linked a 4 = record {
        site = g.call.site;
        name = of_value to;
        among = inl refl;
        there = there;
        home = inside;
        low = low;
        high = high;
        whole = by_four;
      } in
      let area = lying_area x (all_sites x g line rest y) y.linked s.memory a 4 s.good lying 1 (omega arith) in
      let near = lying_near x (all_sites x g line rest y) y.linked a 4 lying in
      let points : Points g.call.site.base s.vars home a = subst (Points g.call.site.base s.vars home) (sym is)
      (points_there g.call.site.base s.vars home at_home) in
      let c = awaiting (within x.table x.blocks g) s.awaits in
      let v1 : Vars = put s.vars FIRST a in
      let v2 : Vars = put v1 SECOND w in
      let k2 : List WordInstr = Store FIRST SECOND whole ∷ k in
      let m : Memory = with_number s.memory a whole w in
      let r1 = address_runs x.law x.live (all_procs x) c refl s.words s.memory (Constant SECOND w ∷ k2) s.vars FIRST home a points in
      let r2 = run_constant x.live (all_procs x) c s.memory k2 v1 s.words SECOND w in
      let r3 = run_store x.live (all_procs x) c s.memory k v2 s.words FIRST SECOND whole (got a (omega (arith, near))) (got w small) area.0.may in
      let ch = changed_word x.law s.memory a w s.good.sized area.0 small in
      record {
        sofar = record {
          memory = m;
          vars = v2;
          words = s.words;
          awaits = s.awaits;
          good = memory_kept x (all_sites x g line rest y) y.linked s.memory m a 4 s.good ch lying;
          changed = changed_both g.memory s.memory m start place.bytes a 4 start place.bytes s.changed ch (omega arith) (omega arith) low high;
          same = same_more g.call.vars s.vars v2 s.same (same_more s.vars v1 v2 (same_first s.vars a) (same_second v1 w));
          steps = s.steps + 3;
          few = (let h = s.few in omega (arith, h));
          runs = then_runs x.live (all_procs x) s.runs
              (then_runs x.live (all_procs x) (then_runs x.live (all_procs x) r1 r2) r3);
        };
        changed = ch;
        are_at = (put_here x.law s.memory a w s.good.sized area.0.may small, tt);
        more = omega arith;
      }

  -- the first word, and those behind it
  words_both : (n : ℕ) (ws : List ℕ) (a : ℕ) (lines k k' : List WordInstr) (most before : ℕ) (m : Memory) (f : WordsAfter m before lines k' a
      (n ∷ []) (most + 3))
      → WordsAfter f.sofar.memory f.sofar.steps lines k (a + 4) ws (most + 3 + room_of ws) → WordsAfter m before lines k a (n ∷ ws) (most +
      (4 + room_of ws))
  words_both n ws a lines k k' most before m f q = record {
    sofar = more_most x g line rest y to there inside lines k (most + 3 + room_of ws) (most + (4 + room_of ws)) (omega arith) q.sofar;
    changed = changed_both m f.sofar.memory q.sofar.memory a 4 (a + 4) (room_of ws) a (4 + room_of ws) f.changed q.changed
        (omega arith) (omega arith) (omega arith) (omega arith);
    are_at = (q.changed.outside a (inl (omega arith)) ∙ f.are_at.0, q.are_at);
    more = (let h = f.more in let j = q.more in omega (arith, h, j));
  }

  still_zeros : (n : ℕ) (ws : List ℕ) (a : ℕ) (lines k : List WordInstr) (most before : ℕ) (m : Memory) (f : WordsAfter m before lines k a
      (n ∷ []) most)
      → AreAt m (a + 4) (zeros_of ws) → AreAt f.sofar.memory (a + 4) (zeros_of ws)
  still_zeros n ws a lines k most before m f blank =
      all_carried m f.sofar.memory (a + 4) (a + 4) (zeros_of ws) (λ o inner by. f.changed.outside (a + 4 + o) (inr (omega arith))) blank

  -- what some pieces do, at a home
  abbrev Writes : List Piece → Type 0
  Writes pieces = AllSmall (piece_words pieces) → (home : Home) → InMemory home → (a : ℕ) → a ≡ address_of g.call.site.base home
      → start ≤ a → a + room_of (piece_words pieces) ≤ start + place.bytes → a % 4 ≡ 0
      → (lines k : List WordInstr) (most : ℕ) → (s : So lines (pieces_code home pieces k) most) → AreAt s.memory a (zeros_of (piece_words pieces))
      → WordsAfter s.memory s.steps lines k a (piece_words pieces) (most + room_of (piece_words pieces))

  -- a word before others
  word_before : (n : ℕ) (pieces : List Piece) → n < 2 ^ 32 → AllSmall (piece_words pieces) → Writes pieces
      → (home : Home) → InMemory home → (a : ℕ) → a ≡ address_of g.call.site.base home
      → start ≤ a → a + (4 + room_of (piece_words pieces)) ≤ start + place.bytes → a % 4 ≡ 0
      → (lines k : List WordInstr) (most : ℕ) → (s : So lines (unless_zero home n (pieces_code (shifted 4 home) pieces k)) most)
      → AreAt s.memory a (More (Number (pos 0)) (zeros_of (piece_words pieces)))
      → WordsAfter s.memory s.steps lines k a (n ∷ piece_words pieces) (most + (4 + room_of (piece_words pieces)))
  word_before n pieces small all more home at_home a is low high by_four lines k most s blank =
      let ws : List ℕ = piece_words pieces in
      let k' : List WordInstr = pieces_code (shifted 4 home) pieces k in
      let address = shifted_address g.call.site.base 4 home at_home in
      let f = word_written home at_home a is low (omega (arith, high)) by_four n small lines k' most s blank.0 in
      words_both n ws a lines k k' most s.steps s.memory f
      (more all (shifted 4 home) (shifted_inside 4 home at_home) (a + 4) (omega (arith, is, address)) (omega (arith, low))
      (omega (arith, high)) (omega (arith, by_four)) lines k (most + 3) f.sofar
      (still_zeros n ws a lines k' (most + 3) s.steps s.memory f blank.1))

  words_written : (pieces : List Piece) → Writes pieces
  words_written [] small home at_home a is low high by_four lines k most s blank = record {
    sofar = more_most x g line rest y to there inside lines k most (most + 0) (omega arith) s;
    changed = changed_same s.memory a 0 s.good.sized;
    are_at = tt;
    more = omega arith;
  }
  words_written (P.Ordinal z ∷ pieces) small home at_home a is low high by_four lines k most s blank =
      word_before (word z) pieces small.0 small.1 (words_written pieces) home at_home a is low high by_four lines k most s blank
  words_written (P.Parts zero ∷ pieces) small home at_home a is low high by_four lines k most s blank =
      word_before 0 pieces small.0 small.1 (words_written pieces) home at_home a is low high by_four lines k most s blank
  words_written (P.Parts (suc n) ∷ pieces) small home at_home a is low high by_four lines k most s blank =
      words_written pieces small home at_home a is low high by_four lines k most s blank
  words_written (P.Elements n ∷ pieces) small home at_home a is low high by_four lines k most s blank =
      words_written pieces small home at_home a is low high by_four lines k most s blank
  words_written (P.Text text ∷ pieces) small home at_home a is low high by_four lines k most s blank =
      words_written pieces small home at_home a is low high by_four lines k most s blank
  words_written (P.Nil ∷ pieces) small home at_home a is low high by_four lines k most s blank =
      words_written pieces small home at_home a is low high by_four lines k most s blank

  -- zeros, and then the words
  gets_constant : (pieces : List Piece) (v : Value) → piece_words pieces ≡ words_in v → AllSmall (words_in v) → OfNumbers v
      → of_numbers (looked x.table g.call.site (of_value to)) ≡ true → has_shape v (looked x.table g.call.site (of_value to)) ≡ true → is_single v ≡ false →
      (k : List WordInstr)
      → Gets x g line rest y (constant_at place (spot_of place) pieces k) k (of_value to) v (9 + 2 * bytes v)
  gets_constant pieces v are are_small numbers look shaped parted k =
      let plain_is : holds_address place ≡ false = value_plain place there.kind in
      let ws : List ℕ = piece_words pieces in
      let small : AllSmall ws = subst AllSmall (sym are) are_small in
      let zeros : Value = Parts (zeros_of ws) in
      let full : room_of ws ≡ bytes v = ap room_of are ∙ words_room v numbers in
      let least : 4 ≤ bytes v = bytes_some v numbers in
      let zeros_bytes : bytes zeros ≡ bytes v
      = ap or_word (zeros_room ws) ∙ or_word_is (room_of ws) (omega (arith, full, least)) ∙ full in
      let size : place.bytes ≡ bytes v = size_is x (all_sites x g line rest y) y.linked g.call (inl refl) (of_value to) there plain_is v look shaped in
      let long : place.bytes ≡ bytes zeros = size ∙ sym zeros_bytes in
      let single : place.is_word ≡ false
      = word_is x (all_sites x g line rest y) y.linked g.call (inl refl) (of_value to) there plain_is v look shaped ∙ parted in
      let lying = lying_all x (all_sites x g line rest y) y.linked g.call.site (of_value to) (bytes zeros) (inl refl) there inside long in
      let k1 : List WordInstr = pieces_code place.home pieces k in
      let lines : List WordInstr = constant_at place (spot_of place) pieces k in
      let r = zeros_by x g line rest y (of_value to) there inside zeros (zeros_zero ws) long k1 in
      let same_code : lines ≡ cleared false (bytes zeros) (Lies place.home) k1
      = ap (λ p. constant_at place p pieces k) (spot_memory place plain_is inside) ∙ ap₂ (λ a b. cleared a b (Lies place.home) k1) single long in
      let s0 : So lines k1 (9 + bytes v) = record {
        memory = r.memory;
        vars = r.vars;
        words = r.words;
        awaits = r.awaits;
        good = memory_kept x (all_sites x g line rest y) y.linked g.memory r.memory start (bytes zeros) y.memory r.changed lying;
        changed = subst (λ b. Changed g.memory r.memory start b) (sym long) r.changed;
        same = r.same;
        steps = r.steps;
        few = (let h = r.few in omega (arith, h, zeros_bytes));
        runs = subst (λ c. Runs x.live (all_procs x) r.steps (run_at (within x.table x.blocks g) g.memory c g.call.vars g.words)
            (run_at (awaiting (within x.table x.blocks g) r.awaits) r.memory k1 r.vars r.words)) (sym same_code) r.runs;
      } in
      let d = words_written pieces small place.home inside start refl (omega arith) (omega (arith, full, size))
      (address_whole x (all_sites x g line rest y) y.linked g.call.site (of_value to) (inl refl) there inside) lines k (9 + bytes v) s0 r.there in
      gets_bytes x g line rest y (of_value to) there plain_is v look shaped lines k (9 + 2 * bytes v) inside (record {
        memory = d.sofar.memory;
        vars = d.sofar.vars;
        words = d.sofar.words;
        awaits = d.sofar.awaits;
        same = d.sofar.same;
        changed = subst (λ b. Changed g.memory d.sofar.memory start b) size d.sofar.changed;
        there = by_words d.sofar.memory start v numbers (subst (λ us. WordsAt d.sofar.memory start us) are d.are_at);
        steps = d.sofar.steps;
        some = (let h = d.more in let j = r.some in omega (arith, h, j));
        few = (let h = d.sofar.few in omega (arith, h, full));
        runs = d.sofar.runs;
      })

module _ (x : Basis) (g : Both) (line : BlockLine) (rest : List BlockLine) (y : IsGood x (starts g line rest)) (to : ℕ)
    (there : IsThere g.call.site (of_value to)) where
  -- a word, in a variable
  gets_number : (pieces : List Piece) (z : ℤ) → piece_words pieces ≡ word z ∷ [] → has_shape (Number z) (looked x.table g.call.site (of_value to)) ≡ true
      → InWord (house g.call.site (of_value to)) → (k : List WordInstr)
      → Gets x g line rest y (constant_at (house g.call.site (of_value to)) (spot_of (house g.call.site (of_value to))) pieces k) k (of_value to)
      (Number z) 2
  gets_number pieces z are shaped w k =
      let h : Housed = house g.call.site (of_value to) in
      let t : ℕ = w.variable in
      let n : ℕ = first_word (piece_words pieces) in
      let is : n ≡ word z = ap first_word are in
      let small : word z < 2 ^ 32 = word_small z (number_fits (Number z) (looked x.table g.call.site (of_value to)) shaped) in
      gets_word x g line rest y (of_value to) there (value_plain h there.kind) (Number z)
      (number_numbers z (looked x.table g.call.site (of_value to)) shaped) shaped
      (constant_at h (spot_of h) pieces k) k t w.home
      (subst (λ l. ToVariable x.law x.live (all_procs x) (within x.table x.blocks g) refl g.words g.memory l g.call.vars t (Number z) k)
      (sym (ap (λ q. constant_at h q pieces k) w.spot)) (record {
        vars = put g.call.vars t n;
        given = var_here g.call.vars t n (omega (arith, is, small)) ∙ ap Some is;
        but = but_one g.call.vars g.call.vars t n w.high (all_same g.call.vars);
        steps = 1;
        some = omega arith;
        few = omega arith;
        runs = run_constant x.live (all_procs x) (within x.table x.blocks g) g.memory k g.call.vars g.words t n;
      }))

  -- a value that is built, of numbers
  pub built_settles : (pieces : List Piece) (v : Value) → piece_words pieces ≡ words_in v → OfNumbers v
      → of_numbers (looked x.table g.call.site (of_value to)) ≡ true
      → has_shape v (looked x.table g.call.site (of_value to)) ≡ true
      → code_here x g line rest y
      ≡ constant_at (house g.call.site (of_value to)) (spot_of (house g.call.site (of_value to))) pieces (code_next x g line rest y)
      → Settles x (starts g line rest) rest (Passes (Answers [] (1 + (bytes v + 0)) (with_value to g.call.temps v) g.world))
  built_settles pieces (Number z) are o numbers shaped code =
      value_settles x g line rest y to (Number z) 2 (1 + (4 + 0)) there numbers shaped
      (subst (λ l. Gets x g line rest y l (code_next x g line rest y) (of_value to) (Number z) 2) (sym code)
      (gets_number pieces z are shaped
      (in_word x g.call.site to y.linked.0 there (sym (single_is (Number z) (looked x.table g.call.site (of_value to)) numbers shaped)))
      (code_next x g line rest y))) (omega arith)
  built_settles pieces (Parts vs) are o numbers shaped code =
      let plain_is = value_plain (house g.call.site (of_value to)) there.kind in
      let inside = in_memory x g line rest y (of_value to) there plain_is
      (sym (single_is (Parts vs) (looked x.table g.call.site (of_value to)) numbers shaped)) in
      value_settles x g line rest y to (Parts vs) (9 + 2 * bytes (Parts vs)) (1 + (bytes (Parts vs) + 0)) there numbers shaped
      (subst (λ l. Gets x g line rest y l (code_next x g line rest y) (of_value to) (Parts vs) (9 + 2 * bytes (Parts vs))) (sym code)
      (gets_constant x g line rest y to there inside pieces (Parts vs) are
      (small_words (Parts vs) (looked x.table g.call.site (of_value to)) numbers shaped) o numbers shaped refl (code_next x g line rest y))) (omega arith)
  built_settles pieces (Handle n k) are o numbers shaped code = absurd o
  built_settles pieces (Fixed text) are o numbers shaped code = absurd o
  built_settles pieces (Ref object) are o numbers shaped code = absurd o
  built_settles pieces (Resource vs i) are o numbers shaped code = absurd o
  built_settles pieces (Gone v final) are o numbers shaped code = absurd o
  built_settles pieces Vacant are o numbers shaped code = absurd o

-- ---- the line

module _ (x : Basis) (labels : LabelsLead x) (g : Both) (rest : List BlockLine) (to : ℕ) (how : UseAt) (ty : ℕ) where
  built_constant : (pieces : List Piece) → text_in pieces ≡ None → pieces_bytes pieces ≡ bytes (value_of pieces)
      → FollowedHere x labels g rest (L.Constant to how ty pieces)
  built_constant pieces no_text long names y =
      let line = plain (L.Constant to how ty pieces) in
      let to_type : Ty = type_at (known x).types ty in
      let v : Value = value_of pieces in
      let s = shape_of (facts_in x.table) to_type in
      let f : FitsShape s pieces = constant_shape x g rest to how ty pieces y in
      let typed = constant_typed x g rest to how ty pieces y in
      let t = target x g line rest y to to_type refl (no_alias (is_read how.how) (texts_behind x g line rest y)) typed names.0 in
      subst (λ b. Settles x (starts g line rest) rest (gives (scene_of (high x.table x.blocks (starts g line rest))) to
      (costs 1 (constant_for b (form_of (facts_in x.table) to_type) (pieces_bytes pieces) v) >>= made_by b (bound_for g how)))) (sym t.unhooked)
      (subst (λ n. Settles x (starts g line rest) rest (Passes (Answers [] (1 + (n + 0)) (with_value to g.call.temps v) g.world))) (sym long)
      (built_settles x g line rest y to t.there pieces v (words_are pieces (plain_pieces s pieces t.numbers f) f.one)
      (values_of_numbers v s t.numbers f.shaped) (ap of_numbers t.look ∙ t.numbers) (subst (λ s. has_shape v s ≡ true) (sym t.look) f.shaped)
      (code_is (is_read how.how) (is_hooked x.table ty) (x.hooks ty ∙ t.unhooked) (around x.table x.blocks (body_of g)) (house g.call.site (of_value to))
      (code_next x g line rest y))))
    where
      no_alias : (read : Bool) (n : ℕ) → text_alias read n (text_in pieces) ≡ alias.Own
      no_alias read n = ap (text_alias read n) no_text

      code_is : (read hooked : Bool) → hooked ≡ false → (a : Around) (h : Housed) (k : List WordInstr)
          → constant_by a read hooked (text_in pieces) ty h pieces k ≡ constant_at h (spot_of h) pieces k
      code_is false hooked e a h k = ap₂ (λ b o. constant_by a false b o ty h pieces k) e no_text
      code_is true hooked e a h k = ap₂ (λ b o. constant_by a true b o ty h pieces k) e no_text

  -- one that is no text
  pub constant_line : (pieces : List Piece) → text_in pieces ≡ None → FollowedHere x labels g rest (L.Constant to how ty pieces)
  constant_line pieces other = by (pieces_are pieces) other
    where
      by : {pieces : List Piece} → PiecesAre pieces → text_in pieces ≡ None → FollowedHere x labels g rest (L.Constant to how ty pieces)
      by (one_number z) other = number_constant x labels g rest to how ty z
      by (one_text text) other = absurd (none_some text (sym other))
      by (built {pieces} no_text long) other = built_constant pieces no_text long
