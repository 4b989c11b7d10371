-- Known answers of the definitions: published ones, and the second program's (host/second) where none is published.
use Rattle.std.specs.Prelude.{◌≡◌, ℕ}
use Rattle.permutation.specs.declared.State.{State}
use Rattle.permutation.specs.declared.Run.TheVariants.{Twelve, FirstEight, FirstSix, LastEight, LastSix}
use Rattle.permutation.specs.Round.{round}
use Rattle.permutation.specs.Runs.{permute}

-- a state from its words
abbrev pub words : ℕ → ℕ → ℕ → ℕ → ℕ → State
words x0 x1 x2 x3 x4 = record { x0 = x0; x1 = x1; x2 = x2; x3 = x3; x4 = x4 }

-- the state that the published runs start from
abbrev pub turning : State
turning = words 0x0123456789abcdef 0xef0123456789abcd 0xcdef0123456789ab 0xabcdef0123456789 0x89abcdef01234567

pub record Known : Type 0 where
  -- one round, as a public implementation's own test has it
  pub one : round 0x1f (words 0x0123456789abcdef 0x23456789abcdef01 0x456789abcdef0123 0x6789abcdef012345 0x89abcde01234567f)
      ≡ words 0x3c1748c9be2892ce 0x5eafb305cd26164f 0xf9470254bb3a4213 0xf0428daf0c5d3948 0x281375af0b294899
  -- twelve rounds, from the same source
  pub twelve : permute Twelve turning ≡ words 0x206416dfc624bb14 0x1b0c47a601058aab 0x8934cfc93814cddd 0xa9738d287a748e4b 0xddd934f058afc7e1
  -- the later edition's runs, of the last eight and the last six constants, from the same source
  pub last_eight : permute LastEight turning ≡ words 0x67ed228272f46eee 0x80bc0b097aad7944 0x2fa599382c6db215 0x368133fae2f7667a 0x28cefb195a7c651c
  pub last_six : permute LastSix turning ≡ words 0xc27b505c635eb07f 0xd388f5d2a72046fa 0x9e415c204d7b15e7 0xce0d71450fe44581 0xdd7c5fef57befe48
  -- v1's runs of eight and six are published nowhere: these answers are the second program's
  pub first_eight : permute FirstEight turning ≡ words 0xd133ea0bce4cebad 0xb0f2e66623a22443 0x9812fe8f5d1fbde4 0xd9d842e5c113460d 0x8495718043ce7a7c
  pub first_six : permute FirstSix turning ≡ words 0xe96c073abd1328d5 0xbd5c0349644bbbc9 0x8e218dccbb9fb472 0x4758dccd48821ad7 0x66d62e1af2e21181
