-- The lines of a framed trace, as pieces one behind the other.
use Rattle.std.proofs.Common.{◌≡◌, ℕ, List, [], ◌++◌, codes, decimal, length, append_assoc, append-nil}
use Rattle.lt_campaign.specs.Rounds.{campaign_line, frame}

-- the pieces of a frame
pub frame_pieces : (session : ℕ) (text n m : List ℕ) → n ≡ decimal session → m ≡ decimal (length text) → codes "#from " ++ (n ++ (codes " " ++ (m ++ (codes "\n" ++ (text ++ []))))) ≡ frame session text
frame_pieces session text n m first second = rw (first, second) (simp (append_assoc, append-nil))

-- the pieces of the line at the end
pub end_pieces : (sessions well : ℕ) (n m : List ℕ) → n ≡ decimal sessions → m ≡ decimal well → codes "#campaign " ++ (n ++ (codes " ended " ++ (m ++ (codes "\n" ++ [])))) ≡ campaign_line sessions well
end_pieces sessions well n m first second = rw (first, second) (simp (append_assoc, append-nil))
