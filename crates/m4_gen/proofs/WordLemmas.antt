-- The words of the generator are those of the definition.
use Rattle.std.proofs.Common.{◌≡◌, ℕ, ◌+◌, ◌*◌, ◌%◌, ◌^◌, ◌<◌, refl, ◌∙◌, ap, arith}
use Rattle.rand_core.specs.Stream.{Stream, next_u64}
use Rattle.rand_core.specs.Steps.{stream_of}
use Rattle.rand_xoshiro.specs.SplitMix64.{mix_u64, splitmix_steps}
use Rattle.m4_model.specs.Generated.{mix, word}
use Rattle.m4_gen.specs.Source.{HasGiven}

-- a stream gives the word of its state, and the stream of the next state is left
drawn : (x : ℕ) → next_u64 (stream_of splitmix_steps x) ≡ ((mix_u64 x).0, stream_of splitmix_steps (mix_u64 x).1)
unfolding next_u64 stream_of
drawn x = refl

next_state : (seed k : ℕ) → ((seed + k * 0x9e3779b97f4a7c15) % 2 ^ 64 + 0x9e3779b97f4a7c15) % 2 ^ 64 ≡ (seed + (k + 1) * 0x9e3779b97f4a7c15) % 2 ^ 64
next_state seed k = omega arith

is_word : (seed k : ℕ) → (mix_u64 ((seed + k * 0x9e3779b97f4a7c15) % 2 ^ 64)).0 ≡ word seed k
unfolding word
is_word seed k = ap mix (next_state seed k)

module _ (seed k old new x : ℕ) (given : HasGiven seed k old) (draws : ◌≡◌ {A = ℕ × Stream} (x, stream_of splitmix_steps new) (next_u64 (stream_of splitmix_steps old))) where
  both : ◌≡◌ {A = ℕ × Stream} (x, stream_of splitmix_steps new) ((mix_u64 ((seed + k * 0x9e3779b97f4a7c15) % 2 ^ 64)).0, stream_of splitmix_steps (mix_u64 ((seed + k * 0x9e3779b97f4a7c15) % 2 ^ 64)).1)
  both = draws ∙ ap next_u64 given ∙ drawn ((seed + k * 0x9e3779b97f4a7c15) % 2 ^ 64)

  pub drawn_word : x ≡ word seed k
  drawn_word = ap (λ p. p.0) both ∙ is_word seed k

  pub drawn_next : HasGiven seed (k + 1) new
  drawn_next = ap (λ p. p.1) both ∙ ap (stream_of splitmix_steps) (next_state seed k)

-- a generator that stands at the seed has given nothing
pub given_none : (seed source : ℕ) → source ≡ seed → seed < 2 ^ 64 → HasGiven seed 0 source
given_none seed source is small = ap (stream_of splitmix_steps) (let e : seed ≡ (seed + 0 * 0x9e3779b97f4a7c15) % 2 ^ 64 = omega (arith, small) in is ∙ e)
