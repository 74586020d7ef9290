-- The words in which 'its first place' of demand 2 is put: the place of the first at fault of a list, of the lowest at fault, of a piece by its
-- index; and the record of what each place of document 01 is. `proofs/Places` shows it. Assumes nothing.
use Rattle.std.specs.Prelude.{ℕ, ◌≤◌, ◌≡◌, Bool, true, false, cond, not, List, [], ◌∷◌, ◌++◌, map, ltb, length}
use Rattle.paper.specs.Outcome.{Fault, verdict}
use Rattle.paper.specs.Layout.{behind, bad_value}
use Rattle.paper.specs.Tags.{table, tiled, lacks, misfits, disallowed, disagreements}
use Rattle.paper.specs.Pieces.{Piece, bad_piece, touches}
use Rattle.paper.specs.Keys.{keys, misplaced, absences, fixed_keys, forbidden}
use Rattle.paper.specs.Ground.{ground_faults}
use Rattle.paper.specs.Asked.{MaskBroken}
use Rattle.paper.specs.Judge.{head_in, entries_in, view, pieces_of, full_of, runs_of, survey_of, verdict_of}

-- ---- the first, and the lowest

-- x is one of xs
pub record In {A : Type 0} (x : A) (xs : List A) : Type 0 where
  pub before : List A
  pub behind : List A
  pub split : xs ≡ before ++ (x ∷ behind)

-- xs is some that are not at fault, then one that is, whose place is p, then any
pub record FirstFault {A : Type 0} (bad : A → Bool) (place : A → ℕ) (xs : List A) (p : ℕ) : Type 0 where
  pub before : List A
  pub it : A
  pub behind : List A
  pub split : xs ≡ before ++ (it ∷ behind)
  pub none : (x : A) → In x before → bad x ≡ false
  pub fault : bad it ≡ true
  pub named : place it ≡ p

-- p is the place of one of xs that is at fault, and none of them that is at fault has a lower place
pub record Lowest {A : Type 0} (bad : A → Bool) (place : A → ℕ) (xs : List A) (p : ℕ) : Type 0 where
  pub it : A
  pub one : In it xs
  pub fault : bad it ≡ true
  pub named : place it ≡ p
  pub least : (x : A) → In x xs → bad x ≡ true → p ≤ place x

-- the piece with index p is at fault, p pieces stand before it, and none of these is
pub record FirstPiece (bad : Piece → Bool) (ss : List Piece) (p : ℕ) : Type 0 where
  pub first : FirstFault bad (λ s. s.index) ss p
  pub counted : length first.before ≡ p

-- the lowest of the faults that a rule looks for
abbrev pub LowestFault : List Fault → ℕ → Type 0
LowestFault xs p = Lowest (λ x. x.there) (λ x. x.place) xs p

-- ---- numbers that stand one behind the other

pub record Pair : Type 0 where
  pub earlier : ℕ
  pub later : ℕ

abbrev pub pair : ℕ → ℕ → Pair
pair a b = record { earlier = a; later = b }

unfoldable pub pairs_from : ℕ → List ℕ → List Pair
pairs_from a [] = []
pairs_from a (b ∷ bs) = pair a b ∷ pairs_from b bs

-- every number but the first with the one before it
unfoldable pub pairs : List ℕ → List Pair
pairs [] = []
pairs (a ∷ bs) = pairs_from a bs

unfoldable pub out_of_order : (ℕ → ℕ → Bool) → Pair → Bool
out_of_order follows x = not (follows x.earlier x.later)

-- the later number of the first pair where it does not follow the earlier
abbrev pub FirstFall : (ℕ → ℕ → Bool) → List ℕ → ℕ → Type 0
FirstFall follows ns p = FirstFault (out_of_order follows) (λ x. x.later) (pairs ns) p

-- ---- the place of each rule

-- where the verdict has number k, its place is as Q says
abbrev pub Placed : List ℕ → ℕ → (ℕ → Type 0) → Type 0
Placed f k Q = (p : ℕ) → verdict_of f ≡ verdict k p → Q p

-- the rules for which document 01 gives no place, and C-11 for 27
abbrev pub placeless : List ℕ
placeless = 1 ∷ 2 ∷ 3 ∷ 4 ∷ 5 ∷ 27 ∷ 15 ∷ 20 ∷ 22 ∷ []

pub record Places (f : List ℕ) : Type 0 where
  -- the place is 0 unless given
  pub ungiven : (k : ℕ) → In k placeless → Placed f k (λ p. p ≡ 0)
  -- a tag not greater than the one before, other than a 50909 behind a 50909: the later tag of the first such pair
  pub at6 : Placed f 6 (FirstFall behind (map (λ e. e.tag) (entries_in f (head_in f))))
  -- a wrong count or offset: the first such tag
  pub at7 : Placed f 7 (FirstFault (bad_value (length f)) (λ e. e.tag) (entries_in f (head_in f)))
  -- a needed tag absent; another type or count; a value not allowed: the lowest tag
  pub at9 : Placed f 9 (Lowest (lacks (view f).held) (λ l. l.tag) table)
  pub at10 : Placed f 10 (Lowest (misfits (view f).held) (λ l. l.tag) table)
  pub at11 : Placed f 11 (Lowest (disallowed (head_in f).big (view f).held) (λ l. l.tag) table)
  -- tags that disagree, lowest first: 258, 259, and 273 and 279, in tiles 324 and 325
  pub at12 : Placed f 12 (LowestFault (disagreements (head_in f).big (view f).held))
  pub tags12 : map (λ x. x.place) (disagreements (head_in f).big (view f).held)
      ≡ 258 ∷ 259 ∷ cond (tiled (view f).held) (324 ∷ 325 ∷ []) (273 ∷ 279 ∷ [])
  -- a piece that lies wrong; one that shares a byte with the reading list: its index, counted from 0
  pub at13 : Placed f 13 (FirstPiece (bad_piece (length f)) (pieces_of (view f)))
  pub at14 : Placed f 14 (FirstPiece (touches (full_of (view f))) (pieces_of (view f)))
  -- a key not greater than the one before: the later key of the first such pair
  pub at16 : Placed f 16 (FirstFall ltb (map (λ e. e.key) (keys (runs_of (view f)))))
  -- a wrong location, count or value index: the first such key
  pub at17 : Placed f 17 (FirstFault (misplaced (runs_of (view f))) (λ e. e.key) (keys (runs_of (view f))))
  -- a needed key absent, of 1024, 1025, 2048 and 3072: the lowest
  pub at18 : Placed f 18 (LowestFault (absences (keys (runs_of (view f)))))
  pub keys18 : map (λ x. x.place) (absences (keys (runs_of (view f)))) ≡ 1024 ∷ 1025 ∷ 2048 ∷ 3072 ∷ []
  -- a value not allowed: the lowest key
  pub at19 : Placed f 19 (Lowest (forbidden (keys (runs_of (view f)))) (λ x. x.key) fixed_keys)
  -- the lowest tag at fault of 33550, 33922 and 34264
  pub at21 : Placed f 21 (LowestFault (ground_faults (survey_of (view f))))
  pub tags21 : map (λ x. x.place) (ground_faults (survey_of (view f))) ≡ 33550 ∷ 33922 ∷ 34264 ∷ []
  -- the mask breaks a rule: the number of the first that it breaks, one of 4 to 14 and 27
  pub at28 : Placed f 28 (MaskBroken f)
