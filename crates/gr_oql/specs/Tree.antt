-- A condition without where it lies in memory.
use Rattle.gr_oql.specs.declared.condition.Test.{Test}

mutual
  pub data Tree : Type 0 where
    any : Trees → Tree
    all : Trees → Tree
    negation : Tree → Tree
    test : Test → Tree

  pub data Trees : Type 0 where
    no_trees : Trees
    tree : Tree → Trees → Trees
