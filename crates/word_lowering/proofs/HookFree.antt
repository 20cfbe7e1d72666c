-- Where nothing is to be done for a type's values the code of a line is that of their bits.
use Rattle.std.proofs.Common.{◌≡◌, ℕ, List, Bool, true, false, Option, Some, None, refl, ap}
use Rattle.std.specs.Prelude.{◌&&◌}
use Rattle.nim_types.specs.Table.{facts_in, types_in}
use Rattle.nim_program.specs.View.{if_type}
use Rattle.nim_meaning.specs.Here.{gives_hooked}
use Rattle.flat_code.specs.declared.line.From.{From}
use Rattle.word_code.specs.declared.word.WordInstr.{WordInstr}
use Rattle.word_lowering.specs.declared.homes.Housed.{Housed}
use Rattle.word_lowering.specs.LineCode.{Around, assigned_code, got_code}
use Rattle.word_lowering.specs.Spots.{moves}
use Rattle.word_lowering.specs.WaitingCode.{gives_hooked as code_hooked}
use Rattle.word_lowering.proofs.Lines.{Basis}

-- the code asks what the meaning does
pub same_hooks : (x : Basis) (o : Option ℕ) → code_hooked x.table o ≡ gives_hooked (facts_in x.table) (if_type (types_in x.table) o)
same_hooks x None = refl
same_hooks x (Some ty) = x.hooks ty

and_false : (b c : Bool) → c ≡ false → (b && c) ≡ false
and_false true c e = e
and_false false c e = refl

pub got_plain : (a : Around) (hooked copied other : Bool) (ty : Option ℕ) (to from : Housed) (k : List WordInstr) → hooked ≡ false
    → got_code a (hooked && copied) (hooked && other) ty to from k ≡ moves to from k
got_plain a hooked copied other ty to from k e = ap (λ b. got_code a (b && copied) (b && other) ty to from k) e

pub got_looked : (a : Around) (hooked copied blank : Bool) (ty : Option ℕ) (to from : Housed) (k : List WordInstr) → copied ≡ false
    → got_code a (hooked && copied) blank ty to from k ≡ got_code a false blank ty to from k
got_looked a hooked copied blank ty to from k e = ap (λ b. got_code a b blank ty to from k) (and_false hooked copied e)

pub assigned_plain : (a : Around) (hooked : Bool) (row : List WordInstr → List WordInstr) (ty : Option ℕ) (from : List From) (k : List WordInstr)
    → hooked ≡ false → assigned_code a hooked row ty from k ≡ row k
assigned_plain a hooked row ty from k e = ap (λ b. assigned_code a b row ty from k) e
