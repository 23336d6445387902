use Rattle.std.proofs.Common.{◌≡◌, ◌≢◌, ◌-◌, ◌*◌, ◌/◌, [], ◌∷◌, length, subst, arith, sym, ◌∙◌}
use Rattle.std.proofs.lemmas.Bool.{eqb-false}
use Rattle.m4_bits.proofs.SumLemmas.{Added, added-more, added-word, added-all}
use Rattle.m4_bits.proofs.rows.xor_from6.Goals as goal

pub loop-block-preserved : goal.loop-block-preserved
loop-block-preserved c =
    added-more c.args.dst.now c.loop-block.dst (c.args.a.now ∷ c.args.b.now ∷ c.args.c.now ∷ c.args.d.now ∷ c.args.e.now ∷ c.args.f.now ∷ []) (c.loop-block.block * 8) 8 _ (c.requires.0, (c.requires.1, (c.requires.2, (c.requires.3, (c.requires.4, (c.requires.5, tt)))))) (omega arith) (omega arith) (omega arith)
    c.loop-block.invariant

pub loop-k-init : goal.loop-k-init
loop-k-init c =
    let all : c.loop-block.block * 8 ≡ length c.args.dst.now / 8 * 8 = omega arith in
    subst (Added c.args.dst.now c.loop-block.dst (c.args.a.now ∷ c.args.b.now ∷ c.args.c.now ∷ c.args.d.now ∷ c.args.e.now ∷ c.args.f.now ∷ [])) all c.loop-block.invariant

pub loop-k-preserved : goal.loop-k-preserved
loop-k-preserved c =
    added-word c.args.dst.now c.loop-k.dst (c.args.a.now ∷ c.args.b.now ∷ c.args.c.now ∷ c.args.d.now ∷ c.args.e.now ∷ c.args.f.now ∷ []) c.loop-k.k _ (omega arith) (omega arith) c.loop-k.invariant

pub returns : goal.returns
returns c =
    let some : length c.args.dst.now ≢ 0 = eqb-false (length c.args.dst.now) 0 (sym c.is_empty.ensures ∙ c.if-is_empty.false) in
    added-all c.args.dst.now c.loop-k.dst (c.args.a.now ∷ c.args.b.now ∷ c.args.c.now ∷ c.args.d.now ∷ c.args.e.now ∷ c.args.f.now ∷ []) c.args.last (length c.args.dst.now - 1) c.loop-k.k (c.requires.0, (c.requires.1, (c.requires.2, (c.requires.3, (c.requires.4, (c.requires.5, tt)))))) (omega arith)
    (omega (arith, some)) (omega arith) c.loop-k.invariant
