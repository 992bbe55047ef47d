-- What the words of the command line ask for.
use Rattle.std.specs.Prelude.{◌≡◌, ℕ, ◌≤◌, List, [], ◌∷◌, codes, Option, Some, None}
use Rattle.std.specs.Fmt.{decimal}
use Rattle.dhcp_script.specs.Demo.{most_rounds}
use Rattle.dhcp_replay.specs.declared.request.Request.{Request}
use Rattle.dhcp_replay.specs.declared.request.Request.TheVariants.{Run, Upgrade, Demo}

-- the words of a request; its number is in decimal, without leading zeros
abbrev pub words_of : Request → List (List ℕ)
words_of Run = codes "run" ∷ []
words_of Upgrade = codes "upgrade" ∷ []
words_of (Demo rounds) = codes "demo" ∷ decimal rounds ∷ []

-- a demonstration has from 1 to 2000 rounds
abbrev pub IsRequest : Request → Type 0
IsRequest Run = Unit {0}
IsRequest Upgrade = Unit {0}
IsRequest (Demo rounds) = (1 ≤ rounds) × (rounds ≤ most_rounds)

-- the words ask for this
abbrev pub AsksFor : List (List ℕ) → Request → Type 0
AsksFor words request = (words ≡ words_of request) × IsRequest request

-- the words ask for nothing that there is
abbrev pub AsksForNothing : List (List ℕ) → Type 0
AsksForNothing words = (request : Request) → ¬ (AsksFor words request)

-- what the words ask for; none if they ask for nothing that there is
abbrev pub IsRequestIn : Option Request → List (List ℕ) → Type 0
IsRequestIn (Some request) words = AsksFor words request
IsRequestIn None words = AsksForNothing words
