use Rattle.std.proofs.Common.{arith, ◌∙◌}
use Rattle.m4_text.proofs.TokenLemmas.{token_here, next_ended, next_short, none_ended, no_token}
use Rattle.m4_text.proofs.tokens.next_token.Goals as goal
use Rattle.m4_text.proofs.tokens.next_token.Goals.{else-long-via-then-long+else-end-bytes, else-long-via-else-long}

pub returns-then-start-bytes : goal.returns-then-start-bytes
returns-then-start-bytes c =
    no_token c.args.bytes.now c.args.long c.args.from c.skip_white-start.result c.skip_white-start.ensures.same c.if-start-bytes.true

pub returns-then-end-bytes : goal.returns-then-end-bytes
returns-then-end-bytes c =
    let bytes = c.args.bytes.now in
    let skip = c.skip_white-start in
    let found = c.token_end-end in
    none_ended bytes c.args.long c.args.from skip.result found.result skip.ensures.behind found.ensures.some found.ensures.within
    (skip.ensures.same ∙ token_here bytes skip.result found.result found.ensures.some found.ensures.within found.ensures.black found.ensures.white)
    c.if-long.true c.if-end-bytes.true

pub returns-else-long : goal.returns-else-long
returns-else-long c =
    let bytes = c.args.bytes.now in
    let skip = c.skip_white-start in
    let found = c.token_end-end in
    let same = skip.ensures.same ∙ token_here bytes skip.result found.result found.ensures.some found.ensures.within found.ensures.black found.ensures.white in
    elim c.else-long.branch [
      | else-long-via-then-long+else-end-bytes w ↦
          next_ended bytes c.args.long c.args.from skip.result found.result skip.ensures.behind found.ensures.some found.ensures.within same
          (omega (arith, found.ensures.within, w.if-end-bytes.false))
      | else-long-via-else-long w ↦
          next_short bytes c.args.long c.args.from skip.result found.result skip.ensures.behind found.ensures.some found.ensures.within same w.if-long.false
    ]
