use Rattle.std.proofs.Common.{◌≤◌, ◌+◌, ◌-◌, length, take, drop, sym, ap, refl, ◌∙◌, arith}
use Rattle.std.proofs.lemmas.List.{take_rest}
use Rattle.indent_scanner.specs.declared.token.Tok.TheVariants.{End}
use Rattle.indent_scanner.specs.Tokens.{LiesIn, HasByte, PlaceFits}
use Rattle.indent_scanner.proofs.Reading.{gap_turn, token_turn, gap_size, token_size, kept_further, kept_token, one_more, more_count, place_fits}
use Rattle.indent_scanner.proofs.Reading.{ends_so, nothing_left, tokens_are, is_refused, no_tokens}
use Rattle.indent_scanner.proofs.Standing.{tokens_stand, tokens_spelled}
use Rattle.indent_scanner.proofs.source.scan.Goals as goal

pub loop-comment-preserved-in-Gap : goal.loop-comment-preserved-in-Gap
loop-comment-preserved-in-Gap c =
    let rest = c.loop-comment.rest.now in let before = c.loop-comment.invariant in let n = c.in-Gap.len in let gap = c.over_gap-here.ensures in
    record {
      so_far = gap_turn _ c.loop-comment.here c.over_gap-here.result _ rest _ _ c.loop-comment.tokens c.in-Gap.comment n before.so_far c.in-Gap.ensures.begins
          gap.place refl (take_rest rest n);
      fits = gap.fits;
      size = gap_size rest _ n c.loop-comment.here.start c.over_gap-here.result.start _ c.in-Gap.ensures.within.1 (take_rest rest n) gap.start before.size;
      kept = (let further : c.loop-comment.here.start ≤ c.over_gap-here.result.start = omega (arith, gap.start) in
          kept_further _ _ _ c.loop-comment.tokens further before.kept);
    }

pub loop-comment-preserved : goal.loop-comment-preserved
loop-comment-preserved c =
    let rest = c.loop-comment.rest.now in let here = c.loop-comment.here in let before = c.loop-comment.invariant in let n = c.in-Found.len in let pushed =
    c.in_ok-push-in-Found.ensures.ok in
    let room : here.start + n ≤ length c.args.source.now = omega (arith, before.size, c.in-Found.ensures.within.1) in
    record {
      so_far = token_turn _ here c.over_token-here.result _ rest _ c.loop-comment.tokens c.push.new.self c.token_at.result c.in-Found.kind n before.so_far
          c.in-Found.ensures.begins (take_rest rest n) c.token_at.ensures pushed c.over_token-here.ensures.place;
      fits = c.over_token-here.ensures.fits;
      size = token_size rest _ n here.start c.over_token-here.result.start _ c.in-Found.ensures.within.1 (take_rest rest n)
          (ap (λ x. x.start) c.over_token-here.ensures.place) before.size;
      kept = kept_token c.args.source.now c.loop-comment.tokens c.push.new.self c.token_at.result here c.in-Found.kind n (take (length rest - n) (drop n rest))
          pushed c.token_at.ensures c.over_token-here.result.start (ap (λ x. x.start) c.over_token-here.ensures.place) before.kept before.fits
          c.in-Found.ensures.within.2 c.in-Found.ensures.within.0 room;
    }

pub returns-in-Refused-clause-refused : goal.returns-in-Refused-clause-refused
returns-in-Refused-clause-refused c = is_refused c.args.source.now c.args.«module» c.loop-comment.here c.over_gap.result c.loop-comment.rest.now
    _ c.loop-comment.tokens c.in-Refused.code c.in-Refused.at c.refusal.result c.loop-comment.invariant.so_far c.in-Refused.ensures.begins
    c.over_gap.ensures.place refl c.refusal.ensures

pub returns-in-Refused-clause-none : goal.returns-in-Refused-clause-none
returns-in-Refused-clause-none c = no_tokens c.args.source.now c.args.«module» c.loop-comment.here c.over_gap.result c.loop-comment.rest.now
    c.loop-comment.tokens c.in-Refused.code c.in-Refused.at c.refusal.result c.loop-comment.invariant.so_far c.in-Refused.ensures.begins c.refusal.ensures

pub returns-clause-tokens : goal.returns-clause-tokens
returns-clause-tokens c = tokens_are _ c.loop-comment.here _ c.loop-comment.rest.now c.loop-comment.tokens c.push-2.new.self c.token_at-2.result
    c.loop-comment.invariant.so_far (nothing_left c.loop-comment.rest.now (sym c.is_empty.ensures ∙ c.loop-comment-test.false)) c.token_at-2.ensures
    c.in_ok-push.ensures.ok

pub returns-clause-inside : goal.returns-clause-inside
returns-clause-inside c =
    let room : c.loop-comment.here.start + 0 ≤ length c.args.source.now = omega (arith, c.loop-comment.invariant.size) in
    one_more c.args.source.now c.loop-comment.tokens c.push-2.new.self c.token_at-2.result c.loop-comment.here End 0 c.loop-comment.rest.now
    c.in_ok-push.ensures.ok c.token_at-2.ensures (LiesIn c.args.source.now) c.loop-comment.invariant.kept.inside (record { inside = room })

pub returns-clause-count : goal.returns-clause-count
returns-clause-count c =
    let e = more_count c.args.source.now c.loop-comment.tokens c.push-2.new.self c.token_at-2.result c.loop-comment.here End 0 c.loop-comment.rest.now
    c.in_ok-push.ensures.ok c.token_at-2.ensures c.loop-comment.here.start c.loop-comment.invariant.kept.count in
    omega (arith, e, c.loop-comment.invariant.size)

pub returns-clause-ended : goal.returns-clause-ended
returns-clause-ended c = ends_so c.loop-comment.here c.loop-comment.rest.now c.loop-comment.tokens c.push-2.new.self c.token_at-2.result c.token_at-2.ensures
    c.in_ok-push.ensures.ok c.loop-comment.invariant.kept.inner

pub returns-clause-some : goal.returns-clause-some
returns-clause-some c = one_more c.args.source.now c.loop-comment.tokens c.push-2.new.self c.token_at-2.result c.loop-comment.here End 0 c.loop-comment.rest.now
    c.in_ok-push.ensures.ok c.token_at-2.ensures HasByte c.loop-comment.invariant.kept.some (λ e. absurd (e refl))

pub returns-clause-fits : goal.returns-clause-fits
returns-clause-fits c =
    let placed = place_fits c.args.source.now c.loop-comment.tokens c.push-2.new.self c.token_at-2.result c.loop-comment.here End 0 c.loop-comment.rest.now
    c.in_ok-push.ensures.ok c.token_at-2.ensures c.loop-comment.invariant.fits in
    one_more c.args.source.now c.loop-comment.tokens c.push-2.new.self c.token_at-2.result c.loop-comment.here End 0 c.loop-comment.rest.now
    c.in_ok-push.ensures.ok c.token_at-2.ensures PlaceFits c.loop-comment.invariant.kept.placed placed

pub returns-clause-spelled : goal.returns-clause-spelled
returns-clause-spelled c = tokens_spelled c.args.source.now c.push-2.new.self (returns-clause-tokens c)

pub returns-clause-places : goal.returns-clause-places
returns-clause-places c = tokens_stand c.args.source.now c.push-2.new.self (returns-clause-tokens c)
