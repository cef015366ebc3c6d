-- Settled cases of the loss list (02, No. 9), which antt computes: on each of them an answer that looks right says something else.
use Rattle.std.specs.Prelude.{ℕ, ◌≡◌, List, [], ◌∷◌}
use Rattle.sent.specs.Record.{Outstanding, Acknowledged, Lost, is_lost}
use Rattle.losses.specs.Sequence.{Calls, none, ◌then◌, send_next, hear_frame, hearing}
use Rattle.losses.specs.Told.{told, times}
use Rattle.losses.specs.Answers.{would_list}

-- numbers 0 to 4 are sent
abbrev pub five : Calls
five = none then send_next then send_next then send_next then send_next then send_next

-- ACK frames: of number 4 alone, of 4 and 0, and of 5 alone
abbrev pub only_four : List ℕ
only_four = 0x02 ∷ 0x04 ∷ 0x00 ∷ 0x00 ∷ 0x00 ∷ []

abbrev pub four_and_zero : List ℕ
four_and_zero = 0x02 ∷ 0x04 ∷ 0x00 ∷ 0x01 ∷ 0x00 ∷ 0x02 ∷ 0x00 ∷ []

abbrev pub only_five : List ℕ
only_five = 0x02 ∷ 0x05 ∷ 0x00 ∷ 0x00 ∷ 0x00 ∷ []

-- 4 is heard, then 4 and 0
abbrev pub first : Calls
first = five then hear_frame only_four 9 9

abbrev pub second : Calls
second = first then hear_frame four_and_zero 9 9

pub record Examples : Type 0 where
  -- lost "if the largest acknowledged is at least n + 3": 4 is 1 + 3, and not 2 + 3. By n + 4 number 1 were outstanding, by n + 2 number 2 lost
  pub by_three : told first 1 ≡ Lost
  pub no-sooner : told first 2 ≡ Outstanding
  pub lists-lost : (hearing five only_four 9 9).lost ≡ 0 ∷ 1 ∷ []
  pub lists-acked : (hearing five only_four 9 9).acked ≡ 4 ∷ []
  -- "A lost number acknowledged later becomes acknowledged and is listed as such": were only outstanding ones listed, 0 were not
  pub was-lost : told first 0 ≡ Lost
  pub late : told second 0 ≡ Acknowledged
  pub late-listed : times 0 (hearing first four_and_zero 9 9).acked ≡ 1
  -- "newly acknowledged": 4 was acknowledged before, and is not listed again
  pub not-again : times 4 (hearing first four_and_zero 9 9).acked ≡ 0
  -- "16 for an acknowledged number never sent, then 9 for a list without room": 5 was not sent, and there is no room for it
  pub sixteen : (hearing five only_five 0 0).result ≡ 16
  pub nine : (hearing five only_four 0 9).result ≡ 9
  pub nine-lost : (hearing five only_four 1 1).result ≡ 9
  pub room : (hearing five only_four 1 2).result ≡ 0
  -- what it would list, from the calls alone
  pub would-list : would_list is_lost five only_four ≡ 0 ∷ 1 ∷ []
