-- A form over other leaves and other binding lists: from places and cells of a pool to terms and variables.
-- Rests on Formula and Normal.
use Rattle.formulas.specs.Formula.{Form, Forms, opaque, neg, many, imp, ite, iff, all, fnil, fcons}
use Rattle.formulas.specs.Normal.{Normal, Normals, lit, nmany, nall, nnil, ncons}

module _ {B C K L : Type 0} (list : B → C) (leaf : K → L) where
  abbrev mutual
    pub map_f : Form B K → Form C L
    map_f (opaque t) = opaque (leaf t)
    map_f (neg f) = neg (map_f f)
    map_f (many b fs) = many b (map_fs fs)
    map_f (imp f g) = imp (map_f f) (map_f g)
    map_f (ite f g h) = ite (map_f f) (map_f g) (map_f h)
    map_f (iff f g) = iff (map_f f) (map_f g)
    map_f (all b vs f) = all b (list vs) (map_f f)

    pub map_fs : Forms B K → Forms C L
    map_fs fnil = fnil
    map_fs (fcons f fs) = fcons (map_f f) (map_fs fs)

  abbrev mutual
    pub map_n : Normal B K → Normal C L
    map_n (lit b t) = lit b (leaf t)
    map_n (nmany b ns) = nmany b (map_ns ns)
    map_n (nall b vs n) = nall b (list vs) (map_n n)

    pub map_ns : Normals B K → Normals C L
    map_ns nnil = nnil
    map_ns (ncons n ns) = ncons (map_n n) (map_ns ns)
