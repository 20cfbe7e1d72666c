-- A literal that is only read, and whose value a line takes from a home: its handle stands there. What the line does is followed.
use Rattle.std.proofs.Common.{◌≡◌, inl, ℕ, ◌+◌, ◌%◌, ◌<◌, ◌≤◌, ◌^◌, List, [], ◌∷◌, length, map, Some, Ok, true, false}
use Rattle.std.proofs.Common.{refl, sym, ap, subst, ◌∙◌, arith}
use Rattle.std.specs.Set.{is_member}
use Rattle.nim_types.specs.Table.{facts_in, type_at}
use Rattle.nim_types.specs.Types.{Ty, same_text}
use Rattle.nim_meaning.specs.Deeds.{Answers}
use Rattle.nim_meaning.specs.Values.{Fixed}
use Rattle.rv32_isa.specs.declared.micro_op.Size.TheVariants.{Word as whole}
use Rattle.flat_code.specs.declared.block.BlockLine.{BlockLine}
use Rattle.flat_code.specs.declared.line.Line.TheVariants as L
use Rattle.flat_code.specs.declared.line.Piece.TheVariants as P
use Rattle.flat_code.specs.declared.line.UseAt.{UseAt}
use Rattle.flat_code.specs.Codes.{block_plain}
use Rattle.flat_code.specs.Fits as fit
use Rattle.flat_code.specs.Scene.{Passes, with_value}
use Rattle.flat_code.specs.Shapes.{block, has_shape, shape_of}
use Rattle.flat_code.specs.Sizes.{lines_texts}
use Rattle.word_code.specs.declared.word.WordInstr.{WordInstr}
use Rattle.word_code.specs.declared.word.WordInstr.TheVariants.{Constant, Datum, Store}
use Rattle.word_code.specs.Memory.{Memory, number_at, with_number}
use Rattle.word_code.specs.Words.{Vars, put}
use Rattle.word_code.proofs.ForCallers.{Changed, Runs, at as run_at, changed_word, got, none as no_run, put_here, run_constant, run_store, then_runs}
use Rattle.word_lowering.specs.declared.homes.TheConstants.{FIRST, SECOND}
use Rattle.word_lowering.specs.declared.homes.Alias.TheVariants as alias
use Rattle.word_lowering.specs.declared.homes.Home.{Home}
use Rattle.word_lowering.specs.declared.homes.Home.TheVariants.{Static}
use Rattle.word_lowering.specs.declared.homes.Housed.{Housed}
use Rattle.word_lowering.specs.Aliases.{is_read}
use Rattle.word_lowering.specs.Layouts.{holds_address}
use Rattle.word_lowering.specs.LineCode.{constant_by}
use Rattle.word_lowering.specs.Lowered.{data_at}
use Rattle.word_lowering.specs.Operands.{text_at}
use Rattle.word_lowering.specs.OwnedCode.{lent_text_code}
use Rattle.word_lowering.specs.ShapeBytes.{shape_bytes}
use Rattle.word_lowering.specs.Spots.{address, shifted}
use Rattle.word_lowering.specs.Stored.{is_hooked}
use Rattle.word_lowering.proofs.ConstantFits.{constant_shape, constant_typed}
use Rattle.word_lowering.proofs.AddressFacts.{in_memory}
use Rattle.word_lowering.proofs.Blocks.{IsLiteralHandle}
use Rattle.word_lowering.proofs.ConstantWords.{text_among}
use Rattle.word_lowering.proofs.ControlLines.{plain}
use Rattle.word_lowering.proofs.FixedTexts.{is_fixed_now}
use Rattle.word_lowering.proofs.Gets.{heap_kept, high_variable, item_settles, memory_kept}
use Rattle.word_lowering.proofs.Keeping.{outside_still, points_there, somewhere, to_home}
use Rattle.word_lowering.proofs.Lines.{Basis, IsGood, Settles, all_procs, all_sites, known, lower, starts}
use Rattle.word_lowering.proofs.Moves.{address_runs, all_same, same_first, same_more, same_second}
use Rattle.word_lowering.proofs.OperandTexts.{TextsBuilt}
use Rattle.word_lowering.proofs.PartRuns.{Sofar, changed_both, changed_same, shifted_address, shifted_inside}
use Rattle.word_lowering.proofs.Related.{Both, body_of, store_with, within}
use Rattle.word_lowering.proofs.RoutineCalls.{awaiting}
use Rattle.word_lowering.proofs.Scenes.{IsThere, Points, StoredIn, address_of, house, is_fixed, looked, of_value}
use Rattle.word_lowering.proofs.Settling.{code_here, code_next}
use Rattle.word_lowering.proofs.Sites.{InMemory, around, is_one_word, lines_of, next_base}
use Rattle.word_lowering.proofs.SitesApart.{IsPlace, houses}
use Rattle.word_lowering.proofs.Sources.{Lying, address_whole, lying_all, lying_area, lying_near}
use Rattle.word_lowering.proofs.TextConstants.{text_look}
use Rattle.word_lowering.proofs.TextLines.{TextAt as LaidAt}
use Rattle.word_lowering.proofs.ValueFacts.{has_type, look_of, type_in, value_plain, with_home}
use Rattle.word_lowering.proofs.WrittenLines.{Writing}

-- ---- words come to the home of a temporary

module _ (x : Basis) (g : Both) (line : BlockLine) (rest : List BlockLine) (y : IsGood x (starts g line rest)) (to : ℕ)
    (there : IsThere g.call.site (of_value to)) (inside : InMemory (house g.call.site (of_value to)).home) where
  abbrev place : Housed
  place = house g.call.site (of_value to)

  abbrev start : ℕ
  start = address_of g.call.site.base place.home

  abbrev So : (lines k : List WordInstr) → ℕ → Type 0
  So lines k most = Sofar x g line rest y to there inside lines k most

  -- a line gives a word to a variable
  abbrev Gives : WordInstr → ℕ → Type 0
  Gives set n = (awaits : ℕ) (m : Memory) (k : List WordInstr) (v w : Vars)
      → Runs x.live (all_procs x) 1 (run_at (awaiting (within x.table x.blocks g) awaits) m (set ∷ k) v w)
      (run_at (awaiting (within x.table x.blocks g) awaits) m k (put v SECOND n) w)

  record WordPut (m : Memory) (before : ℕ) (lines k : List WordInstr) (a n most : ℕ) : Type 0 where
    pub sofar : So lines k most
    pub changed : Changed m sofar.memory a 4
    pub is_at : number_at sofar.memory a whole ≡ Ok n
    pub more : before < sofar.steps

  word_put : (home : Home) → InMemory home → (a : ℕ) → a ≡ address_of g.call.site.base home → start ≤ a → a + 4 ≤ start + place.bytes → a % 4 ≡ 0
      → (set : WordInstr) (n : ℕ) → n < 2 ^ 32 → Gives set n → (lines k : List WordInstr) (most : ℕ)
      → (s : So lines (address FIRST home ∷ set ∷ Store FIRST SECOND whole ∷ k) most) → WordPut s.memory s.steps lines k a n (most + 3)
  word_put home at_home a is low high by_four set n small gives lines k most s =
      let lying : Lying x (all_sites x g line rest y) y.linked a 4 = record {
        site = g.call.site;
        name = of_value to;
        among = inl refl;
        there = there;
        home = inside;
        low = low;
        high = high;
        whole = by_four;
      } in
      let area = lying_area x (all_sites x g line rest y) y.linked s.memory a 4 s.good lying 1 (omega arith) in
      let near = lying_near x (all_sites x g line rest y) y.linked a 4 lying in
      let points : Points g.call.site.base s.vars home a = subst (Points g.call.site.base s.vars home) (sym is)
      (points_there g.call.site.base s.vars home at_home) in
      let c = awaiting (within x.table x.blocks g) s.awaits in
      let v1 : Vars = put s.vars FIRST a in
      let v2 : Vars = put v1 SECOND n in
      let k2 : List WordInstr = Store FIRST SECOND whole ∷ k in
      let m : Memory = with_number s.memory a whole n in
      let r1 = address_runs x.law x.live (all_procs x) c refl s.words s.memory (set ∷ k2) s.vars FIRST home a points in
      let r2 = gives s.awaits s.memory k2 v1 s.words in
      let r3 = run_store x.live (all_procs x) c s.memory k v2 s.words FIRST SECOND whole (got a (omega (arith, near))) (got n small) area.0.may in
      let ch = changed_word x.law s.memory a n s.good.sized area.0 small in
      record {
        sofar = record {
          memory = m;
          vars = v2;
          words = s.words;
          awaits = s.awaits;
          good = memory_kept x (all_sites x g line rest y) y.linked s.memory m a 4 s.good ch lying;
          changed = changed_both g.memory s.memory m start place.bytes a 4 start place.bytes s.changed ch (omega arith) (omega arith) low high;
          same = same_more g.call.vars s.vars v2 s.same (same_more s.vars v1 v2 (same_first s.vars a) (same_second v1 n));
          steps = s.steps + 3;
          few = (let h = s.few in omega (arith, h));
          runs = then_runs x.live (all_procs x) s.runs (then_runs x.live (all_procs x) (then_runs x.live (all_procs x) r1 r2) r3);
        };
        changed = ch;
        is_at = put_here x.law s.memory a n s.good.sized area.0.may small;
        more = omega arith;
      }

-- ---- the line

module _ (x : Basis) (said : Writing x) (texts : TextsBuilt x) (g : Both) (rest : List BlockLine) (to : ℕ) (how : UseAt) (ty : ℕ) (text : List ℕ) where
  abbrev naming : BlockLine
  naming = plain (L.Constant to how ty (P.Text text ∷ []))

  abbrev to_type : Ty
  to_type = type_at (known x).types ty

  module _ (y : IsGood x (starts g naming rest)) (read : is_read how.how ≡ true) (own : (house g.call.site (of_value to)).alias ≡ alias.Own) where
    abbrev home_is : Housed
    home_is = house g.call.site (of_value to)

    abbrev next : List WordInstr
    next = code_next x g naming rest y

    abbrev from : ℕ
    from = text_at (around x.table x.blocks (body_of g)) text

    fits : has_shape (Fixed text) (shape_of (facts_in x.table) to_type) ≡ true
    fits = (constant_shape x g rest to how ty (P.Text text ∷ []) y).shaped

    typed : type_in x fit.is_value (body_of g) to ≡ Some to_type
    typed = constant_typed x g rest to how ty (P.Text text ∷ []) y

    there : IsThere g.call.site (of_value to)
    there = with_home x (has_type x g.call.site (of_value to) to_type y.linked.0 typed).named own tt

    look : looked x.table g.call.site (of_value to) ≡ block
    look = look_of x g.call.site (of_value to) to_type (has_type x g.call.site (of_value to) to_type y.linked.0 typed)
        ∙ text_look (shape_of (facts_in x.table) to_type) text fits

    plain_is : holds_address home_is ≡ false
    plain_is = value_plain home_is there.kind

    inside : InMemory home_is.home
    inside = in_memory x g naming rest y (of_value to) there plain_is (ap is_one_word look)

    size : 8 ≡ home_is.bytes
    size = ap shape_bytes (sym look) ∙ (houses x.table x.blocks g.call.site (of_value to) y.linked.0 there).bytes

    among : is_member same_text (lines_texts (lines_of (body_of g))) text ≡ true
    among = ap (λ l. is_member same_text (lines_texts (map block_plain l)) text) y.stands.whole ∙ text_among naming text [] refl y.stands.before rest

    laid : LaidAt x (text_at (around x.table x.blocks (body_of g)) text) text
    laid = said.literals.laid (body_of g) y.linked.0 text among

    lines_are : code_here x g naming rest y
        ≡ address FIRST home_is.home ∷ Constant SECOND (length text) ∷ Store FIRST SECOND whole
        ∷ address FIRST (shifted 4 home_is.home) ∷ Datum SECOND from ∷ Store FIRST SECOND whole ∷ next
    lines_are =
        ap (λ b. constant_by (around x.table x.blocks (body_of g)) b (is_hooked x.table ty) (Some text) ty home_is (P.Text text ∷ []) next) read
        ∙ ap (λ a. lent_text_code (around x.table x.blocks (body_of g)) a home_is.home text next) own

    pub lent_text : Settles x (starts g naming rest) rest (Passes (Answers [] 1 (with_value to g.call.temps (Fixed text)) g.world))
    lent_text =
        let first : ℕ = address_of g.call.site.base home_is.home in
        let small = laid.small in
        let by_four : first % 4 ≡ 0 = address_whole x (all_sites x g naming rest y) y.linked g.call.site (of_value to) (inl refl) there inside in
        let behind_is = shifted_address g.call.site.base 4 home_is.home inside in
        let k2 : List WordInstr = address FIRST (shifted 4 home_is.home) ∷ Datum SECOND from ∷ Store FIRST SECOND whole ∷ next in
        let lines : List WordInstr = code_here x g naming rest y in
        let s0 : Sofar x g naming rest y to there inside (code_here x g naming rest y)
        (address FIRST home_is.home ∷ Constant SECOND (length text) ∷ Store FIRST SECOND whole
        ∷ address FIRST (shifted 4 home_is.home) ∷ Datum SECOND from ∷ Store FIRST SECOND whole ∷ next) 0
        = record {
          memory = g.memory;
          vars = g.call.vars;
          words = g.words;
          awaits = g.awaits;
          good = y.memory;
          changed = changed_same g.memory (address_of g.call.site.base home_is.home) home_is.bytes y.memory.sized;
          same = all_same g.call.vars;
          steps = 0;
          few = omega arith;
          runs = subst (λ l. Runs x.live (all_procs x) 0 (run_at (within x.table x.blocks g) g.memory (code_here x g naming rest y) g.call.vars g.words)
              (run_at (awaiting (within x.table x.blocks g) g.awaits) g.memory l g.call.vars g.words)) lines_are
              (no_run (lower x) (run_at (within x.table x.blocks g) g.memory (code_here x g naming rest y) g.call.vars g.words));
        } in
        let p1 = word_put x g naming rest y to there inside home_is.home inside first refl (omega arith) (omega (arith, size)) by_four
        (Constant SECOND (length text)) (length text) (omega (arith, small))
        (λ awaits m k v w. run_constant x.live (all_procs x) (awaiting (within x.table x.blocks g) awaits) m k v w SECOND (length text)) lines k2 0 s0 in
        let p2 = word_put x g naming rest y to there inside (shifted 4 home_is.home) (shifted_inside 4 home_is.home inside) (first + 4)
        (omega (arith, behind_is)) (omega arith) (omega (arith, size)) (omega (arith, by_four)) (Datum SECOND from) (data_at + from) (omega (arith, small))
        (λ awaits m k v w. address_runs x.law x.live (all_procs x) (awaiting (within x.table x.blocks g) awaits) refl w m k v SECOND (Static from)
        (data_at + from)
        refl) lines next 3 p1.sofar in
        let f = p2.sofar in
        let handle : IsLiteralHandle (is_fixed g.ground) p2.sofar.memory (address_of g.call.site.base home_is.home) text = record {
          place = data_at + from;
          long = p2.changed.outside first (inl (omega arith)) ∙ p1.is_at;
          few = omega (arith, small);
          there = p2.is_at;
          near = omega (arith, small);
          stands = is_fixed_now x (starts g naming rest) y (data_at + from) text
              (said.literals.fixed (body_of g) y.linked.0 text among (texts.letters (body_of g) y.linked.0 text among));
        } in
        let stored : StoredIn (store_with g p2.sofar.memory) (address_of g.call.site.base home_is.home) (looked x.table g.call.site (of_value to)) (Fixed text)
        = subst (λ s. StoredIn (store_with g p2.sofar.memory) (address_of g.call.site.base home_is.home) s (Fixed text)) (sym look) handle in
        let lying : Lying x (all_sites x g naming rest y) y.linked (address_of g.call.site.base home_is.home) home_is.bytes
        = lying_all x (all_sites x g naming rest y) y.linked g.call.site (of_value to) home_is.bytes (inl refl) there inside refl in
        item_settles x g naming rest y to (Fixed text) 6 1 there (record {
          vars = f.vars;
          memory = f.memory;
          words = f.words;
          awaits = f.awaits;
          good = f.good;
          heap = heap_kept x (all_sites x g naming rest y) y.linked g.memory f.memory first home_is.bytes y.memory f.changed lying;
          edit = somewhere first home_is.bytes
              (outside_still (IsPlace x.table x.blocks) (next_base (all_sites x g naming rest y)) g.memory f.memory first home_is.bytes f.changed.outside)
              (inl refl)
              there inside (omega arith) (omega arith);
          variables = λ i u is_there ne at_home. f.same.others u (high_variable x g naming rest y i u is_there at_home);
          left = f.same.left;
          steps = f.steps;
          some = (let a = p2.more in omega (arith, a));
          few = f.few;
          runs = f.runs;
        }) (record {
          there = there;
          plain = plain_is;
          shaped = λ asked. subst (λ s. has_shape (Fixed text) s ≡ true) (sym look) refl;
          at = to_home (store_with g f.memory) g.call.site.base f.vars (looked x.table g.call.site (of_value to)) home_is (Fixed text) plain_is inside stored;
        }) (omega arith)
