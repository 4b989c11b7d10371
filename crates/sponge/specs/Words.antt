-- One byte of five words, as the code takes it: the functions inside the crate go by these. `proofs/Words.antt` ties them to the state's 40 bytes.
use Rattle.std.specs.Prelude.{List, [], ◌∷◌, ℕ, ◌+◌, ◌-◌, ◌*◌, ◌/◌, ◌%◌, ◌^◌, get_or, set, take, drop}
use Rattle.std.specs.Int.Bits.{bit_xor}
use Rattle.permutation.specs.declared.Run.{Run}
use Rattle.permutation.specs.Runs.{permute_words}
use Rattle.permutation.specs.Strings.{◌‖◌, string_of_words, zeros}
use Rattle.ascon.specs.Mode.{◌⊕◌}
use Rattle.ascon.specs.Bytewise.{At, turned}
use Rattle.sponge.specs.declared.Way.{Way}
use Rattle.sponge.specs.declared.Way.TheVariants.{Seal, Open}

-- the byte at a place
abbrev pub byte_of : List ℕ → ℕ → ℕ
byte_of w place = get_or w (place / 8) 0 / 2 ^ (56 - 8 * (place % 8)) % 2 ^ 8

-- the words with a byte combined at a place
abbrev pub with_byte : List ℕ → ℕ → ℕ → List ℕ
with_byte w place x = set w (place / 8) (bit_xor (get_or w (place / 8) 0) (x * 2 ^ (56 - 8 * (place % 8)) % 2 ^ 64))

-- and with bytes from a place on
abbrev pub with_bytes : List ℕ → ℕ → List ℕ → List ℕ
with_bytes w place [] = w
with_bytes w place (x ∷ xs) = with_bytes (with_byte w place x) (place + 1) xs

-- what is combined, of the byte that came and the byte that went out: the plaintext's
abbrev pub feed_of : Way → ℕ → ℕ → ℕ
feed_of Seal came out = came
feed_of Open came out = out

-- the byte that goes out
abbrev pub gone_of : List ℕ → ℕ → ℕ → ℕ
gone_of w place came = bit_xor (byte_of w place) came

-- the words and the place after a byte, with blocks of so many bytes and a run between them
abbrev pub stepped : ℕ → Run → Way → At → ℕ → At
stepped block run way a came =
    turned block (permute_words run)
    (with_byte a.state a.place (feed_of way came (gone_of a.state a.place came))) (a.place + 1)

-- the last n bytes of the words, each combined with a key's, and zeros behind them
abbrev pub masked_end : List ℕ → List ℕ → ℕ → List ℕ
masked_end w key n = (drop (40 - n) (string_of_words w) ⊕ take n key) ‖ zeros (16 - n)
