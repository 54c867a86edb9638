-- The listing of what a job paints, byte by byte. Cited by the contracts of all that list. Assumes nothing: these are definitions.
use Rattle.std.specs.Prelude.{ℕ, ◌+◌, ◌/◌, ◌%◌, cond, List, [], ◌∷◌, ◌++◌, reverse, replicate, codes, decimal, ◌==◌}
use Rattle.std.specs.List.{flat_map}
use Rattle.path.specs.Path.{Point, Ring, Paint}
use Rattle.machine.specs.Machine.{State}

abbrev pub blanks : ℕ → List ℕ
blanks n = replicate n 32

-- whole dots, and the sixteenths where there are any: 3, 3+8/16
unfoldable pub place : ℕ → List ℕ
place n = decimal (n / 16) ++ cond (n % 16 == 0) [] (codes "+" ++ (decimal (n % 16) ++ codes "/16"))

-- each line of a path begins with so many blanks, and with two more inside a subpath
unfoldable pub point_line : ℕ → Point → List ℕ
point_line n p = blanks n ++ (codes "point " ++ (place p.x ++ (codes " " ++ (place p.y ++ codes "\n"))))

unfoldable pub subpath_lines : ℕ → Ring → List ℕ
subpath_lines n r = blanks n ++ (codes "subpath\n" ++ flat_map (point_line (n + 2)) r)

unfoldable pub path_lines : ℕ → List Ring → List ℕ
path_lines n rs = flat_map (subpath_lines n) rs

unfoldable pub clip_lines : List Ring → List ℕ
clip_lines rs = codes "  clip\n" ++ path_lines 4 rs

-- the clips that it was painted under, the oldest first
unfoldable pub thing_lines : Paint → List ℕ
thing_lines p = codes "thing grey " ++ (decimal p.grey ++ (codes "\n" ++ (path_lines 2 p.path ++ flat_map clip_lines (reverse p.clips))))

unfoldable pub page_line : ℕ → List ℕ
page_line k = codes "shown as page " ++ (decimal k ++ codes "\n")

-- pages from number k on: each page's line follows its things
unfoldable pub page_lines : ℕ → List (List Paint) → List ℕ
page_lines k [] = []
page_lines k (ps ∷ pss) = flat_map thing_lines ps ++ (page_line k ++ page_lines (k + 1) pss)

abbrev pub unshown_line : List ℕ
unshown_line = codes "never printed\n"

-- what was painted after the last page
unfoldable pub unshown_lines : List Paint → List ℕ
unshown_lines [] = []
unshown_lines (p ∷ ps) = flat_map thing_lines (p ∷ ps) ++ unshown_line

unfoldable pub listing : List (List Paint) → List Paint → List ℕ
listing pages paints = page_lines 1 pages ++ unshown_lines paints

-- of a state: the pages that were shown, and what was painted after the last
abbrev pub listing_of : State → List ℕ
listing_of s = listing s.pages s.paints
