-- Known answers of the definitions: the published ones of the later edition, and one whole message of each set, with associated data and text of more than one block.
-- No whole message of v1 is published: those of each set are the second program's (`second seal`), which was written from the papers alone and shares nothing with the definitions.
use Rattle.std.specs.Prelude.{List, [], ◌∷◌, ◌≡◌, ℕ}
use Rattle.permutation.specs.Strings.{bytes_of}
use Rattle.ascon.specs.Sets.{ascon128, ascon96, row_of}
use Rattle.ascon.specs.Mode.{Sealed, sealed}

-- 00 01 .. 0f, the published answers' key and nonce
abbrev pub counting : List ℕ
counting = bytes_of 16 0x000102030405060708090a0b0c0d0e0f

-- 10 11 .. 1f, another nonce
abbrev pub counting_on : List ℕ
counting_on = bytes_of 16 0x101112131415161718191a1b1c1d1e1f

-- so many bytes of ciphertext, and the tag
abbrev pub message : ℕ → ℕ → ℕ → Sealed
message n cipher tag = record { cipher = bytes_of n cipher; tag = bytes_of 16 tag }

-- 17 bytes of data and of text, and what the second program makes of them in set 4
abbrev pub long_data : List ℕ
long_data = bytes_of 17 0x202122232425262728292a2b2c2d2e2f30

abbrev pub long_text : List ℕ
long_text = bytes_of 17 0x3132333435363738393a3b3c3d3e3f4041

abbrev pub long_sealed : Sealed
long_sealed = message 17 0x46a24fb7efb3a52b6384866ae61890eeeb 0x057bb88f5abff9d133bf895b3f89193d

pub record Known : Type 0 where
  -- the test files of the lightweight competition, Ascon-128 v1.2: nothing; a byte of data; a byte of text; two blocks of text
  pub published_3_none : sealed (row_of 3) counting counting [] [] ≡ message 0 0 0xe355159f292911f794cb1432a0103a8a
  pub published_3_data : sealed (row_of 3) counting counting (0 ∷ []) [] ≡ message 0 0 0x944df887cd4901614c5dedbc42fc0da0
  pub published_3_text : sealed (row_of 3) counting counting [] (0 ∷ []) ≡ message 1 0xbc 0x18c3f4e39eca7222490d967c79bffc92
  pub published_3_blocks : sealed (row_of 3) counting counting [] counting ≡ message 16 0xbc820dbdf7a4631c5b29884ad69175c3 0xf58e28436dd71556d58dfa56ac890beb
  -- Ascon-128a v1.2: nothing
  pub published_4_none : sealed (row_of 4) counting counting [] [] ≡ message 0 0 0x7a834e6f09210957067b10fd831f0078
  -- set 1: 11 bytes of data and 9 of text, in blocks of 8
  pub set_1 : sealed ascon128 counting counting_on
      (bytes_of 11 0x202122232425262728292a) (bytes_of 9 0x303132333435363738)
      ≡ message 9 0x8242bc00406bc969bc 0xe620c58df8ceb8f4a6a1a7b328fb52ee
  -- set 2: 17 bytes of each, in blocks of 16
  pub set_2 : sealed ascon96 (bytes_of 12 0x000102030405060708090a0b) (bytes_of 12 0x101112131415161718191a1b)
      long_data long_text
      ≡ record { cipher = bytes_of 17 0x6d24654d99aa2dffc2e7146981fe0b5bb6; tag = bytes_of 12 0x3f93a277c733ed1f61535b80 }
  -- set 3: 11 bytes of data and 9 of text, in blocks of 8
  pub set_3 : sealed (row_of 3) counting counting_on (bytes_of 11 0x202122232425262728292a) (bytes_of 9 0x303132333435363738)
      ≡ message 9 0x14e54bf7ccbca908f0 0xa836f46b1f1e7f5cb833f1b914169bf2
  -- set 4: 17 bytes of each, in blocks of 16
  pub set_4 : sealed (row_of 4) counting counting_on long_data long_text ≡ long_sealed
