-- Scripts of about sixty lines each that were drawn at random: scrollable objects in one another, whose children
-- are dragged, moved, hidden and deleted while a pointer is down. At the end nine points tell what lies there.
-- Then scripts at the corners of the rules: how far a drag has gone when it begins to scroll, and in which
-- direction; presses that become long, targets that are deleted or disabled; objects in one another, a slider,
-- offsets that are brought in, and an object that is scrollable no longer.
use Rattle.std.specs.Prelude.{◌++◌, codes}
use Rattle.run_logs.specs.Samples.{Sample}

abbrev pub scroll_1 : Sample
scroll_1 = record {
  words = codes "24 24 24 handlers=60";
  script = codes "new 10 3 obj\nsize 10 19 23\nflag 10 scrollable on\non 10 pressed say\n"
      ++ codes "on 10 clicked say\non 10 long_pressed say\nnew 11 3 obj\nsize 11 39 25\n"
      ++ codes "flag 11 scrollable on\non 11 pressed say\non 11 clicked say\n"
      ++ codes "on 11 pressing say\nnew 12 11 slider\nsize 12 22 39\nflag 12 scrollable on\n"
      ++ codes "on 12 pressed say\non 12 clicked say\non 12 released say\ntouch 19 5\n"
      ++ codes "touch 25 1\nflag 12 bubble on\ntouch 32 -3\nscroll 12 3 7\ntouch 38 8\n"
      ++ codes "flex 11 row\ntick 0\ntouch 27 18\ntouch 9 0\ntouch 16 -7\ntick 100\n"
      ++ codes "scroll 10 3 0\ntick 400\nflex 10 none\ntouch 8 -2\nflag 12 scrollable on\n"
      ++ codes "on 12 pressing say\nnew 13 11 slider\nsize 13 18 34\nflag 13 scrollable on\n"
      ++ codes "pos 13 -2 4\non 13 pressed say\non 13 clicked say\non 13 pressing say\n"
      ++ codes "touch 14 -9\nstate 10 disabled off\nrelease\ntouch 9 5\nstate 11 disabled off\n"
      ++ codes "local 13 main:scrolled pad_left 2\ntouch 15 20\ntouch 16 19\ntouch 14 11\n"
      ++ codes "release\ntouch 3 3\nrelease\ntouch 3 11\nrelease\ntouch 3 20\nrelease\n"
      ++ codes "touch 11 3\nrelease\ntouch 11 11\nrelease\ntouch 11 20\nrelease\ntouch 20 3\n"
      ++ codes "release\ntouch 20 11\nrelease\ntouch 20 20\n";
  log = codes "1 ok\n2 ok\n3 ok\n4 ok\n5 ok\n6 ok\n7 ok\n8 ok\n9 ok\n10 ok\n11 ok\n12 ok\n"
      ++ codes "13 ok\n14 ok\n15 ok\n16 ok\n17 ok\n18 ok\nevent pressed 12 12\n19 ok\n20 ok\n"
      ++ codes "21 ok\nevent pressing 12 11\n22 ok\n23 ok\nevent pressing 12 11\n24 ok\n25 ok\n"
      ++ codes "26 ok\nevent pressing 12 11\n27 ok\nevent pressing 12 11\n28 ok\n"
      ++ codes "event pressing 12 11\n29 ok\n30 ok\n31 ok\n32 ok\n33 ok\nevent pressing 12 11\n"
      ++ codes "34 ok\n35 ok\n36 ok\n37 ok\n38 ok\n39 ok\n40 ok\n41 ok\n42 ok\n43 ok\n"
      ++ codes "event pressing 12 12\nevent pressing 12 11\n44 ok\n45 ok\nevent released 12 12\n"
      ++ codes "event clicked 12 12\nevent clicked 12 11\n46 ok\nevent pressed 12 12\n"
      ++ codes "event pressed 12 11\n47 ok\n48 ok\n49 ok\nevent pressing 12 12\n"
      ++ codes "event pressing 12 11\n50 ok\nevent pressing 12 12\nevent pressing 12 11\n51 ok\n"
      ++ codes "event pressing 12 12\nevent pressing 12 11\n52 ok\nevent released 12 12\n"
      ++ codes "event clicked 12 12\nevent clicked 12 11\n53 ok\nevent pressed 12 12\n"
      ++ codes "event pressed 12 11\n54 ok\nevent released 12 12\nevent clicked 12 12\n"
      ++ codes "event clicked 12 11\n55 ok\nevent pressed 12 12\nevent pressed 12 11\n56 ok\n"
      ++ codes "event released 12 12\nevent clicked 12 12\nevent clicked 12 11\n57 ok\n"
      ++ codes "event pressed 12 12\nevent pressed 12 11\n58 ok\nevent released 12 12\n"
      ++ codes "event clicked 12 12\nevent clicked 12 11\n59 ok\nevent pressed 12 12\n"
      ++ codes "event pressed 12 11\n60 ok\nevent released 12 12\nevent clicked 12 12\n"
      ++ codes "event clicked 12 11\n61 ok\nevent pressed 12 12\nevent pressed 12 11\n62 ok\n"
      ++ codes "event released 12 12\nevent clicked 12 12\nevent clicked 12 11\n63 ok\n"
      ++ codes "event pressed 12 12\nevent pressed 12 11\n64 ok\nevent released 12 12\n"
      ++ codes "event clicked 12 12\nevent clicked 12 11\n65 ok\nevent pressed 12 12\n"
      ++ codes "event pressed 12 11\n66 ok\nevent released 12 12\nevent clicked 12 12\n"
      ++ codes "event clicked 12 11\n67 ok\nevent pressed 12 12\nevent pressed 12 11\n68 ok\n"
      ++ codes "event released 12 12\nevent clicked 12 12\nevent clicked 12 11\n69 ok\n"
      ++ codes "event pressed 12 12\nevent pressed 12 11\n70 ok\n";
}

abbrev pub scroll_2 : Sample
scroll_2 = record {
  words = codes "24 24 24 handlers=60";
  script = codes "new 10 3 obj\nsize 10 36 32\nflag 10 scrollable on\npos 10 -3 7\n"
      ++ codes "on 10 pressed say\non 10 clicked say\non 10 short_clicked say\nnew 11 3 obj\n"
      ++ codes "size 11 18 19\npos 11 13 -4\non 11 pressed say\non 11 clicked say\n"
      ++ codes "on 11 released say\nnew 12 10 obj\nsize 12 36 21\nflag 12 scrollable on\n"
      ++ codes "on 12 pressed say\non 12 clicked say\non 12 short_clicked say\ntouch 14 22\n"
      ++ codes "release\ntouch 2 10\ntouch 6 8\nrelease\nscroll 10 3 7\ntouch 0 18\nrelease\n"
      ++ codes "flex 11 column\ntouch 3 14\nrelease\nnew 13 3 obj\nsize 13 18 19\n"
      ++ codes "on 13 pressed say\non 13 clicked say\non 13 short_clicked say\ntouch 4 8\n"
      ++ codes "release\ntick 400\nrelease\nnew 14 10 obj\nsize 14 25 30\n"
      ++ codes "flag 14 scrollable on\non 14 pressed say\non 14 clicked say\n"
      ++ codes "on 14 short_clicked say\nflag 12 hidden on\ntouch 7 9\ntouch 20 5\n"
      ++ codes "new 15 12 obj\nsize 15 24 20\nflag 15 scrollable on\non 15 pressed say\n"
      ++ codes "release\ntouch 3 3\nrelease\ntouch 3 11\nrelease\ntouch 3 20\nrelease\n"
      ++ codes "touch 11 3\nrelease\ntouch 11 11\nrelease\ntouch 11 20\nrelease\ntouch 20 3\n"
      ++ codes "release\ntouch 20 11\nrelease\ntouch 20 20\n";
  log = codes "1 ok\n2 ok\n3 ok\n4 ok\n5 ok\n6 ok\n7 ok\n8 ok\n9 ok\n10 ok\n11 ok\n12 ok\n"
      ++ codes "13 ok\n14 ok\n15 ok\n16 ok\n17 ok\n18 ok\n19 ok\nevent pressed 12 12\n20 ok\n"
      ++ codes "event short_clicked 12 12\nevent clicked 12 12\n21 ok\nevent pressed 12 12\n"
      ++ codes "22 ok\n23 ok\nevent short_clicked 12 12\nevent clicked 12 12\n24 ok\n25 ok\n"
      ++ codes "event pressed 12 12\n26 ok\nevent short_clicked 12 12\nevent clicked 12 12\n"
      ++ codes "27 ok\n28 ok\nevent pressed 12 12\n29 ok\nevent short_clicked 12 12\n"
      ++ codes "event clicked 12 12\n30 ok\n31 ok\n32 ok\n33 ok\n34 ok\n35 ok\n"
      ++ codes "event pressed 13 13\n36 ok\nevent short_clicked 13 13\nevent clicked 13 13\n"
      ++ codes "37 ok\n38 ok\n39 ok\n40 ok\n41 ok\n42 ok\n43 ok\n44 ok\n45 ok\n46 ok\n"
      ++ codes "event pressed 13 13\n47 ok\n48 ok\n49 ok\n50 ok\n51 ok\n52 ok\n"
      ++ codes "event short_clicked 13 13\nevent clicked 13 13\n53 ok\nevent pressed 13 13\n"
      ++ codes "54 ok\nevent short_clicked 13 13\nevent clicked 13 13\n55 ok\n"
      ++ codes "event pressed 13 13\n56 ok\nevent short_clicked 13 13\nevent clicked 13 13\n"
      ++ codes "57 ok\nevent pressed 14 14\n58 ok\nevent short_clicked 14 14\n"
      ++ codes "event clicked 14 14\n59 ok\nevent pressed 13 13\n60 ok\n"
      ++ codes "event short_clicked 13 13\nevent clicked 13 13\n61 ok\nevent pressed 13 13\n"
      ++ codes "62 ok\nevent short_clicked 13 13\nevent clicked 13 13\n63 ok\n"
      ++ codes "event pressed 14 14\n64 ok\nevent short_clicked 14 14\nevent clicked 14 14\n"
      ++ codes "65 ok\nevent pressed 11 11\n66 ok\nevent released 11 11\nevent clicked 11 11\n"
      ++ codes "67 ok\nevent pressed 11 11\n68 ok\nevent released 11 11\nevent clicked 11 11\n"
      ++ codes "69 ok\nevent pressed 14 14\n70 ok\n";
}

abbrev pub scroll_3 : Sample
scroll_3 = record {
  words = codes "24 24 24 handlers=60";
  script = codes "new 10 3 obj\nsize 10 16 38\nflag 10 scrollable on\non 10 pressed say\n"
      ++ codes "on 10 clicked say\non 10 pressing say\nnew 11 3 obj\nsize 11 29 20\n"
      ++ codes "flag 11 scrollable on\non 11 pressed say\non 11 clicked say\n"
      ++ codes "on 11 pressing say\nnew 12 3 checkbox\nsize 12 37 10\nflag 12 scrollable on\n"
      ++ codes "pos 12 1 4\non 12 pressed say\non 12 clicked say\non 12 pressing say\n"
      ++ codes "new 13 10 checkbox\nsize 13 30 39\nflag 13 scrollable on\non 13 pressed say\n"
      ++ codes "on 13 clicked say\non 13 short_clicked say\ntouch 0 13\ntouch 11 11\n"
      ++ codes "scroll 12 9 8191\ntouch 6 7\ntouch -1 -4\ntouch 5 -10\ntouch 13 -18\n"
      ++ codes "touch 18 -15\nflex 12 none\ntick 0\ntouch 29 -24\ntouch 34 -23\ntouch 48 -35\n"
      ++ codes "touch 57 -23\ntouch 59 -22\ntouch 4 19\ntouch -5 20\ntouch -9 24\nnew 14 3 obj\n"
      ++ codes "size 14 30 11\nflag 14 scrollable on\non 14 pressed say\non 14 clicked say\n"
      ++ codes "on 14 short_clicked say\nlocal 14 main:scrolled pad_left 1\ntouch -15 17\n"
      ++ codes "touch -19 9\nrelease\ntouch 3 3\nrelease\ntouch 3 11\nrelease\ntouch 3 20\n"
      ++ codes "release\ntouch 11 3\nrelease\ntouch 11 11\nrelease\ntouch 11 20\nrelease\n"
      ++ codes "touch 20 3\nrelease\ntouch 20 11\nrelease\ntouch 20 20\n";
  log = codes "1 ok\n2 ok\n3 ok\n4 ok\n5 ok\n6 ok\n7 ok\n8 ok\n9 ok\n10 ok\n11 ok\n12 ok\n"
      ++ codes "13 ok\n14 ok\n15 ok\n16 ok\n17 ok\n18 ok\n19 ok\n20 ok\n21 ok\n22 ok\n23 ok\n"
      ++ codes "24 ok\n25 ok\nevent pressed 11 11\n26 ok\nevent pressing 11 11\n27 ok\n28 ok\n"
      ++ codes "event pressing 11 11\n29 ok\nevent pressing 11 11\n30 ok\nevent pressing 11 11\n"
      ++ codes "31 ok\nevent pressing 11 11\n32 ok\nevent pressing 11 11\n33 ok\n34 ok\n35 ok\n"
      ++ codes "event pressing 11 11\n36 ok\nevent pressing 11 11\n37 ok\nevent pressing 11 11\n"
      ++ codes "38 ok\nevent pressing 11 11\n39 ok\nevent pressing 11 11\n40 ok\n"
      ++ codes "event pressing 11 11\n41 ok\nevent pressing 11 11\n42 ok\nevent pressing 11 11\n"
      ++ codes "43 ok\n44 ok\n45 ok\n46 ok\n47 ok\n48 ok\n49 ok\n50 ok\nevent pressing 11 11\n"
      ++ codes "51 ok\nevent pressing 11 11\n52 ok\nevent clicked 11 11\n53 ok\n"
      ++ codes "event pressed 14 14\n54 ok\nevent short_clicked 14 14\nevent clicked 14 14\n"
      ++ codes "55 ok\nevent pressed 12 12\n56 ok\nevent clicked 12 12\n57 ok\n"
      ++ codes "event pressed 13 13\n58 ok\nevent short_clicked 13 13\nevent clicked 13 13\n"
      ++ codes "59 ok\nevent pressed 14 14\n60 ok\nevent short_clicked 14 14\n"
      ++ codes "event clicked 14 14\n61 ok\nevent pressed 12 12\n62 ok\nevent clicked 12 12\n"
      ++ codes "63 ok\nevent pressed 13 13\n64 ok\nevent short_clicked 13 13\n"
      ++ codes "event clicked 13 13\n65 ok\nevent pressed 14 14\n66 ok\n"
      ++ codes "event short_clicked 14 14\nevent clicked 14 14\n67 ok\nevent pressed 12 12\n"
      ++ codes "68 ok\nevent clicked 12 12\n69 ok\n70 ok\n";
}

abbrev pub scroll_4 : Sample
scroll_4 = record {
  words = codes "24 24 24 handlers=60";
  script = codes "new 10 3 obj\nsize 10 34 15\nflag 10 scrollable on\npos 10 8 11\n"
      ++ codes "on 10 pressed say\non 10 clicked say\non 10 short_clicked say\nnew 11 3 obj\n"
      ++ codes "size 11 23 27\non 11 pressed say\non 11 clicked say\non 11 pressing say\n"
      ++ codes "new 12 10 obj\nsize 12 34 13\non 12 pressed say\non 12 clicked say\n"
      ++ codes "on 12 short_clicked say\ntouch 16 22\nnew 13 3 obj\nsize 13 26 13\n"
      ++ codes "flag 13 scrollable on\non 13 pressed say\non 13 clicked say\n"
      ++ codes "on 13 long_pressed say\nscroll 10 9 0\ntouch 8 34\non 13 released say\n"
      ++ codes "flex 11 column_reverse\nflag 10 bubble off\ntouch 11 27\nnew 14 12 checkbox\n"
      ++ codes "size 14 27 12\non 14 pressed say\non 14 clicked say\non 14 pressing say\n"
      ++ codes "touch 18 19\nflag 12 checkable on\nnew 15 11 obj\nsize 15 21 40\n"
      ++ codes "flag 15 scrollable on\npos 15 0 1\non 15 pressed say\non 15 clicked say\n"
      ++ codes "on 15 long_pressed say\ntouch 8 17\ntouch 18 26\nscroll 11 9 30\ntouch 13 36\n"
      ++ codes "touch 18 0\nrelease\ntouch 9 2\nrelease\nrelease\ntouch 3 3\nrelease\n"
      ++ codes "touch 3 11\nrelease\ntouch 3 20\nrelease\ntouch 11 3\nrelease\ntouch 11 11\n"
      ++ codes "release\ntouch 11 20\nrelease\ntouch 20 3\nrelease\ntouch 20 11\nrelease\n"
      ++ codes "touch 20 20\n";
  log = codes "1 ok\n2 ok\n3 ok\n4 ok\n5 ok\n6 ok\n7 ok\n8 ok\n9 ok\n10 ok\n11 ok\n12 ok\n"
      ++ codes "13 ok\n14 ok\n15 ok\n16 ok\n17 ok\nevent pressed 11 11\n18 ok\n19 ok\n20 ok\n"
      ++ codes "21 ok\n22 ok\n23 ok\n24 ok\n25 ok\nevent pressing 11 11\n26 ok\n27 ok\n28 ok\n"
      ++ codes "29 ok\nevent pressing 11 11\n30 ok\n31 ok\n32 ok\n33 ok\n34 ok\n35 ok\n"
      ++ codes "event pressing 11 11\n36 ok\n37 ok\n38 ok\n39 ok\n40 ok\n41 ok\n42 ok\n43 ok\n"
      ++ codes "44 ok\nevent pressing 11 11\n45 ok\nevent pressing 11 11\n46 ok\n47 ok\n"
      ++ codes "event pressing 11 11\n48 ok\nevent pressing 11 11\n49 ok\nevent clicked 11 11\n"
      ++ codes "50 ok\nevent pressed 13 13\n51 ok\nevent released 13 13\nevent clicked 13 13\n"
      ++ codes "52 ok\n53 ok\nevent pressed 13 13\n54 ok\nevent released 13 13\n"
      ++ codes "event clicked 13 13\n55 ok\nevent pressed 13 13\n56 ok\nevent released 13 13\n"
      ++ codes "event clicked 13 13\n57 ok\nevent pressed 15 15\n58 ok\nevent clicked 15 15\n"
      ++ codes "59 ok\nevent pressed 13 13\n60 ok\nevent released 13 13\nevent clicked 13 13\n"
      ++ codes "61 ok\nevent pressed 13 13\n62 ok\nevent released 13 13\nevent clicked 13 13\n"
      ++ codes "63 ok\nevent pressed 15 15\n64 ok\nevent clicked 15 15\n65 ok\n"
      ++ codes "event pressed 13 13\n66 ok\nevent released 13 13\nevent clicked 13 13\n67 ok\n"
      ++ codes "event pressed 13 13\n68 ok\nevent released 13 13\nevent clicked 13 13\n69 ok\n"
      ++ codes "event pressed 15 15\n70 ok\n";
}

abbrev pub scroll_5 : Sample
scroll_5 = record {
  words = codes "24 24 24 handlers=60";
  script = codes "new 10 3 obj\nsize 10 30 21\nflag 10 scrollable on\non 10 pressed say\n"
      ++ codes "on 10 clicked say\non 10 long_pressed say\nnew 11 10 obj\nsize 11 32 20\n"
      ++ codes "flag 11 scrollable on\non 11 pressed say\non 11 clicked say\n"
      ++ codes "on 11 short_clicked say\nnew 12 11 obj\nsize 12 34 21\nflag 12 scrollable on\n"
      ++ codes "pos 12 -4 10\non 12 pressed say\non 12 clicked say\non 12 pressing say\n"
      ++ codes "touch 12 11\ntick 0\ntouch 19 0\nscroll 10 3 30\nstate 12 disabled off\n"
      ++ codes "new 13 10 obj\nsize 13 40 22\nflag 13 scrollable on\non 13 pressed say\n"
      ++ codes "on 13 clicked say\non 13 pressing say\ntick 400\ntouch 28 -12\ntouch 31 -14\n"
      ++ codes "scroll 11 8191 2\ntouch 29 -16\ntouch 43 -18\non 12 pressing say\ntick 400\n"
      ++ codes "state 10 disabled on\ntick 400\nrelease\ntouch 6 13\nnew 14 3 obj\n"
      ++ codes "size 14 11 19\nflag 14 scrollable on\non 14 pressed say\non 14 clicked say\n"
      ++ codes "on 14 released say\nflex 10 row\ntouch 14 9\nsize 14 44 55\nnew 15 10 slider\n"
      ++ codes "release\ntouch 3 3\nrelease\ntouch 3 11\nrelease\ntouch 3 20\nrelease\n"
      ++ codes "touch 11 3\nrelease\ntouch 11 11\nrelease\ntouch 11 20\nrelease\ntouch 20 3\n"
      ++ codes "release\ntouch 20 11\nrelease\ntouch 20 20\n";
  log = codes "1 ok\n2 ok\n3 ok\n4 ok\n5 ok\n6 ok\n7 ok\n8 ok\n9 ok\n10 ok\n11 ok\n12 ok\n"
      ++ codes "13 ok\n14 ok\n15 ok\n16 ok\n17 ok\n18 ok\n19 ok\nevent pressed 12 12\n20 ok\n"
      ++ codes "21 ok\nevent pressing 12 12\n22 ok\n23 ok\n24 ok\n25 ok\n26 ok\n27 ok\n28 ok\n"
      ++ codes "29 ok\n30 ok\n31 ok\nevent pressing 12 12\n32 ok\nevent pressing 12 12\n33 ok\n"
      ++ codes "34 ok\nevent pressing 12 12\n35 ok\nevent pressing 12 12\n36 ok\n37 ok\n38 ok\n"
      ++ codes "39 ok\n40 ok\n41 ok\nevent pressed 13 13\n42 ok\n43 ok\n44 ok\n45 ok\n46 ok\n"
      ++ codes "47 ok\n48 ok\n49 ok\nevent pressing 13 13\n50 ok\n51 ok\n52 ok\n"
      ++ codes "event clicked 13 13\n53 ok\nevent pressed 14 14\n54 ok\nevent released 14 14\n"
      ++ codes "event clicked 14 14\n55 ok\nevent pressed 14 14\n56 ok\nevent released 14 14\n"
      ++ codes "event clicked 14 14\n57 ok\nevent pressed 14 14\n58 ok\nevent released 14 14\n"
      ++ codes "event clicked 14 14\n59 ok\nevent pressed 14 14\n60 ok\nevent released 14 14\n"
      ++ codes "event clicked 14 14\n61 ok\nevent pressed 14 14\n62 ok\nevent released 14 14\n"
      ++ codes "event clicked 14 14\n63 ok\nevent pressed 14 14\n64 ok\nevent released 14 14\n"
      ++ codes "event clicked 14 14\n65 ok\nevent pressed 14 14\n66 ok\nevent released 14 14\n"
      ++ codes "event clicked 14 14\n67 ok\nevent pressed 14 14\n68 ok\nevent released 14 14\n"
      ++ codes "event clicked 14 14\n69 ok\nevent pressed 14 14\n70 ok\n";
}

abbrev pub scroll_6 : Sample
scroll_6 = record {
  words = codes "24 24 24 handlers=60";
  script = codes "new 10 3 obj\nsize 10 32 35\nflag 10 scrollable on\non 10 pressed say\n"
      ++ codes "on 10 clicked say\non 10 released say\nnew 11 10 obj\nsize 11 24 25\n"
      ++ codes "flag 11 scrollable on\non 11 pressed say\non 11 clicked say\n"
      ++ codes "on 11 pressing say\nnew 12 3 obj\nsize 12 30 18\nflag 12 scrollable on\n"
      ++ codes "on 12 pressed say\non 12 clicked say\non 12 short_clicked say\nrelease\n"
      ++ codes "touch 14 20\ntouch 14 3\ntouch 13 8\ntouch 26 6\nnew 13 12 obj\nsize 13 31 16\n"
      ++ codes "on 13 pressed say\non 13 clicked say\non 13 short_clicked say\ntouch 32 -7\n"
      ++ codes "touch 40 6\ntouch 14 3\nrelease\nnew 14 13 obj\nsize 14 10 34\n"
      ++ codes "flag 14 scrollable on\npos 14 4 12\non 14 pressed say\non 14 clicked say\n"
      ++ codes "on 14 short_clicked say\ntouch 22 6\ntick 400\nnew 15 13 obj\nsize 15 27 33\n"
      ++ codes "flag 15 scrollable on\npos 15 12 6\non 15 pressed say\non 15 clicked say\n"
      ++ codes "on 15 long_pressed say\nrelease\ntick 50\ntouch 18 11\nsize 14 35 14\nrelease\n"
      ++ codes "touch 3 3\nrelease\ntouch 3 11\nrelease\ntouch 3 20\nrelease\ntouch 11 3\n"
      ++ codes "release\ntouch 11 11\nrelease\ntouch 11 20\nrelease\ntouch 20 3\nrelease\n"
      ++ codes "touch 20 11\nrelease\ntouch 20 20\n";
  log = codes "1 ok\n2 ok\n3 ok\n4 ok\n5 ok\n6 ok\n7 ok\n8 ok\n9 ok\n10 ok\n11 ok\n12 ok\n"
      ++ codes "13 ok\n14 ok\n15 ok\n16 ok\n17 ok\n18 ok\n19 ok\nevent pressed 11 11\n20 ok\n"
      ++ codes "event pressing 11 11\n21 ok\nevent pressing 11 11\n22 ok\nevent pressing 11 11\n"
      ++ codes "23 ok\n24 ok\n25 ok\n26 ok\n27 ok\n28 ok\nevent pressing 11 11\n29 ok\n"
      ++ codes "event pressing 11 11\n30 ok\nevent pressing 11 11\n31 ok\nevent clicked 11 11\n"
      ++ codes "32 ok\n33 ok\n34 ok\n35 ok\n36 ok\n37 ok\n38 ok\n39 ok\nevent pressed 13 13\n"
      ++ codes "40 ok\n41 ok\n42 ok\n43 ok\n44 ok\n45 ok\n46 ok\n47 ok\n48 ok\n"
      ++ codes "event clicked 13 13\n49 ok\n50 ok\nevent pressed 15 15\n51 ok\n52 ok\n"
      ++ codes "event clicked 15 15\n53 ok\nevent pressed 13 13\n54 ok\n"
      ++ codes "event short_clicked 13 13\nevent clicked 13 13\n55 ok\nevent pressed 13 13\n"
      ++ codes "56 ok\nevent short_clicked 13 13\nevent clicked 13 13\n57 ok\n"
      ++ codes "event pressed 11 11\n58 ok\nevent clicked 11 11\n59 ok\nevent pressed 13 13\n"
      ++ codes "60 ok\nevent short_clicked 13 13\nevent clicked 13 13\n61 ok\n"
      ++ codes "event pressed 13 13\n62 ok\nevent short_clicked 13 13\nevent clicked 13 13\n"
      ++ codes "63 ok\nevent pressed 11 11\n64 ok\nevent clicked 11 11\n65 ok\n"
      ++ codes "event pressed 13 13\n66 ok\nevent short_clicked 13 13\nevent clicked 13 13\n"
      ++ codes "67 ok\nevent pressed 15 15\n68 ok\nevent clicked 15 15\n69 ok\n"
      ++ codes "event pressed 11 11\n70 ok\n";
}

abbrev pub scroll_7 : Sample
scroll_7 = record {
  words = codes "24 24 24 handlers=60";
  script = codes "new 10 3 obj\nsize 10 19 34\nflag 10 scrollable on\non 10 pressed say\n"
      ++ codes "on 10 clicked say\non 10 short_clicked say\nnew 11 3 obj\nsize 11 39 30\n"
      ++ codes "on 11 pressed say\non 11 clicked say\non 11 released say\nnew 12 11 list\n"
      ++ codes "size 12 19 36\nflag 12 scrollable on\non 12 pressed say\non 12 clicked say\n"
      ++ codes "on 12 released say\nflex 12 row\ntouch 5 12\nscroll 10 3 7\nrelease\ntouch 3 1\n"
      ++ codes "touch -3 -13\nrelease\nstate 10 disabled off\nrelease\ntouch 0 4\nflex 10 row\n"
      ++ codes "release\ntouch 19 23\nscroll 10 9 7\nnew 13 12 obj\nsize 13 30 28\n"
      ++ codes "flag 13 scrollable on\non 13 pressed say\non 13 clicked say\n"
      ++ codes "on 13 released say\non 11 pressed say\nnew 14 12 obj\nsize 14 14 18\n"
      ++ codes "on 14 pressed say\non 14 clicked say\non 14 pressing say\ndelete 10\n"
      ++ codes "touch 17 31\ntouch 4 20\ntouch 19 5\ntouch 14 9\ndelete 13\nscroll 13 0 2\n"
      ++ codes "flag 13 checkable on\nscroll 12 30 8191\nrelease\ntouch 3 3\nrelease\n"
      ++ codes "touch 3 11\nrelease\ntouch 3 20\nrelease\ntouch 11 3\nrelease\ntouch 11 11\n"
      ++ codes "release\ntouch 11 20\nrelease\ntouch 20 3\nrelease\ntouch 20 11\nrelease\n"
      ++ codes "touch 20 20\n";
  log = codes "1 ok\n2 ok\n3 ok\n4 ok\n5 ok\n6 ok\n7 ok\n8 ok\n9 ok\n10 ok\n11 ok\n12 ok\n"
      ++ codes "13 ok\n14 ok\n15 ok\n16 ok\n17 ok\n18 ok\nevent pressed 12 12\n19 ok\n20 ok\n"
      ++ codes "event released 12 12\nevent clicked 12 12\n21 ok\nevent pressed 12 12\n22 ok\n"
      ++ codes "23 ok\nevent released 12 12\nevent clicked 12 12\n24 ok\n25 ok\n26 ok\n"
      ++ codes "event pressed 12 12\n27 ok\n28 ok\nevent released 12 12\nevent clicked 12 12\n"
      ++ codes "29 ok\nevent pressed 11 11\n30 ok\n31 ok\n32 ok\n33 ok\n34 ok\n35 ok\n36 ok\n"
      ++ codes "37 ok\n38 ok\n39 ok\n40 ok\n41 ok\n42 ok\n43 ok\n44 ok\n45 ok\n46 ok\n47 ok\n"
      ++ codes "48 ok\n49 ok\n50 refused unknown\n51 refused unknown\n52 ok\n"
      ++ codes "event released 11 11\nevent clicked 11 11\n53 ok\nevent pressed 14 14\n54 ok\n"
      ++ codes "event clicked 14 14\n55 ok\nevent pressed 14 14\n56 ok\nevent clicked 14 14\n"
      ++ codes "57 ok\nevent pressed 14 14\n58 ok\nevent clicked 14 14\n59 ok\n"
      ++ codes "event pressed 14 14\n60 ok\nevent clicked 14 14\n61 ok\nevent pressed 14 14\n"
      ++ codes "62 ok\nevent clicked 14 14\n63 ok\nevent pressed 14 14\n64 ok\n"
      ++ codes "event clicked 14 14\n65 ok\nevent pressed 11 11\nevent pressed 11 11\n66 ok\n"
      ++ codes "event released 11 11\nevent clicked 11 11\n67 ok\nevent pressed 11 11\n"
      ++ codes "event pressed 11 11\n68 ok\nevent released 11 11\nevent clicked 11 11\n69 ok\n"
      ++ codes "event pressed 11 11\nevent pressed 11 11\n70 ok\n";
}

abbrev pub scroll_8 : Sample
scroll_8 = record {
  words = codes "24 24 24 handlers=60";
  script = codes "new 10 3 obj\nsize 10 21 36\nflag 10 scrollable on\non 10 pressed say\n"
      ++ codes "on 10 clicked say\non 10 long_pressed say\nnew 11 10 obj\nsize 11 11 37\n"
      ++ codes "on 11 pressed say\non 11 clicked say\non 11 long_pressed say\nnew 12 3 slider\n"
      ++ codes "size 12 39 18\non 12 pressed say\non 12 clicked say\non 12 long_pressed say\n"
      ++ codes "touch 5 21\ntouch 18 1\nnew 13 12 slider\nsize 13 10 29\non 13 pressed say\n"
      ++ codes "on 13 clicked say\non 13 pressing say\ntick 50\ntouch 19 8\n"
      ++ codes "local 12 main:scrolled pad_left 1\nrelease\nrelease\ntouch 9 2\ntouch 20 11\n"
      ++ codes "new 14 12 list\nsize 14 34 28\nflag 14 scrollable on\non 14 pressed say\n"
      ++ codes "on 14 clicked say\non 14 short_clicked say\ntouch 9 2\nscroll 12 30 8191\n"
      ++ codes "touch 9 13\ntouch 7 11\ntouch 7 20\ntick 400\ntouch 21 6\ntouch 31 10\n"
      ++ codes "touch 27 7\ntick 500\nnew 15 13 obj\nsize 15 24 29\nflag 15 scrollable on\n"
      ++ codes "on 15 pressed say\non 15 clicked say\non 15 long_pressed say\nrelease\n"
      ++ codes "touch 3 3\nrelease\ntouch 3 11\nrelease\ntouch 3 20\nrelease\ntouch 11 3\n"
      ++ codes "release\ntouch 11 11\nrelease\ntouch 11 20\nrelease\ntouch 20 3\nrelease\n"
      ++ codes "touch 20 11\nrelease\ntouch 20 20\n";
  log = codes "1 ok\n2 ok\n3 ok\n4 ok\n5 ok\n6 ok\n7 ok\n8 ok\n9 ok\n10 ok\n11 ok\n12 ok\n"
      ++ codes "13 ok\n14 ok\n15 ok\n16 ok\nevent pressed 11 11\n17 ok\n18 ok\n19 ok\n20 ok\n"
      ++ codes "21 ok\n22 ok\n23 ok\n24 ok\n25 ok\n26 ok\n27 ok\n28 ok\nevent pressed 13 13\n"
      ++ codes "29 ok\nevent pressing 13 13\n30 ok\n31 ok\n32 ok\n33 ok\n34 ok\n35 ok\n36 ok\n"
      ++ codes "event pressing 13 13\n37 ok\n38 ok\nevent pressing 13 13\n39 ok\n"
      ++ codes "event pressing 13 13\n40 ok\nevent pressing 13 13\n41 ok\n42 ok\n"
      ++ codes "event pressing 13 13\n43 ok\nevent pressing 13 13\n44 ok\nevent pressing 13 13\n"
      ++ codes "45 ok\n46 ok\n47 ok\n48 ok\n49 ok\n50 ok\n51 ok\n52 ok\nevent clicked 13 13\n"
      ++ codes "53 ok\nevent pressed 14 14\n54 ok\nevent short_clicked 14 14\n"
      ++ codes "event clicked 14 14\n55 ok\nevent pressed 14 14\n56 ok\n"
      ++ codes "event short_clicked 14 14\nevent clicked 14 14\n57 ok\nevent pressed 11 11\n"
      ++ codes "58 ok\nevent clicked 11 11\n59 ok\nevent pressed 14 14\n60 ok\n"
      ++ codes "event short_clicked 14 14\nevent clicked 14 14\n61 ok\nevent pressed 14 14\n"
      ++ codes "62 ok\nevent short_clicked 14 14\nevent clicked 14 14\n63 ok\n"
      ++ codes "event pressed 10 10\n64 ok\nevent clicked 10 10\n65 ok\nevent pressed 14 14\n"
      ++ codes "66 ok\nevent short_clicked 14 14\nevent clicked 14 14\n67 ok\n"
      ++ codes "event pressed 14 14\n68 ok\nevent short_clicked 14 14\nevent clicked 14 14\n"
      ++ codes "69 ok\nevent pressed 10 10\n70 ok\n";
}

abbrev pub scroll_9 : Sample
scroll_9 = record {
  words = codes "24 24 24 handlers=60";
  script = codes "new 10 3 obj\nsize 10 32 34\nflag 10 scrollable on\non 10 pressed say\n"
      ++ codes "on 10 clicked say\non 10 short_clicked say\nnew 11 10 obj\nsize 11 31 18\n"
      ++ codes "flag 11 scrollable on\non 11 pressed say\non 11 clicked say\non 11 pressing say\n"
      ++ codes "new 12 10 checkbox\nsize 12 30 31\non 12 pressed say\non 12 clicked say\n"
      ++ codes "on 12 released say\ntouch 5 2\ntouch 10 -4\ntouch 11 10\nsize 11 53 35\nrelease\n"
      ++ codes "touch 20 19\ntouch 12 17\ntouch 21 28\nnew 13 10 obj\nsize 13 17 25\n"
      ++ codes "pos 13 10 13\non 13 pressed say\non 13 clicked say\non 13 released say\n"
      ++ codes "touch 12 32\ntouch 11 38\ntouch 21 7\nflex 13 none\ntouch 4 12\ntouch 10 -2\n"
      ++ codes "touch 8 4\ntouch -6 -7\nnew 14 13 obj\nsize 14 33 23\nflag 14 scrollable on\n"
      ++ codes "on 14 pressed say\non 14 clicked say\non 14 pressing say\nstate 14 disabled on\n"
      ++ codes "release\ntouch 4 16\ntouch 14 3\ntouch 7 17\nstate 13 disabled on\n"
      ++ codes "on 13 pressed delete target\nrelease\ntouch 3 3\nrelease\ntouch 3 11\nrelease\n"
      ++ codes "touch 3 20\nrelease\ntouch 11 3\nrelease\ntouch 11 11\nrelease\ntouch 11 20\n"
      ++ codes "release\ntouch 20 3\nrelease\ntouch 20 11\nrelease\ntouch 20 20\n";
  log = codes "1 ok\n2 ok\n3 ok\n4 ok\n5 ok\n6 ok\n7 ok\n8 ok\n9 ok\n10 ok\n11 ok\n12 ok\n"
      ++ codes "13 ok\n14 ok\n15 ok\n16 ok\n17 ok\nevent pressed 12 12\n18 ok\n19 ok\n20 ok\n"
      ++ codes "21 ok\nevent released 12 12\nevent clicked 12 12\n22 ok\nevent pressed 12 12\n"
      ++ codes "23 ok\n24 ok\n25 ok\n26 ok\n27 ok\n28 ok\n29 ok\n30 ok\n31 ok\n32 ok\n33 ok\n"
      ++ codes "34 ok\n35 ok\n36 ok\n37 ok\n38 ok\n39 ok\n40 ok\n41 ok\n42 ok\n43 ok\n44 ok\n"
      ++ codes "45 ok\n46 ok\nevent released 12 12\n47 ok\nevent pressed 12 12\n48 ok\n49 ok\n"
      ++ codes "50 ok\n51 ok\n52 ok\nevent released 12 12\n53 ok\nevent pressed 12 12\n54 ok\n"
      ++ codes "event released 12 12\nevent clicked 12 12\n55 ok\nevent pressed 12 12\n56 ok\n"
      ++ codes "event released 12 12\nevent clicked 12 12\n57 ok\nevent pressed 12 12\n58 ok\n"
      ++ codes "event released 12 12\nevent clicked 12 12\n59 ok\nevent pressed 12 12\n60 ok\n"
      ++ codes "event released 12 12\nevent clicked 12 12\n61 ok\nevent pressed 12 12\n62 ok\n"
      ++ codes "event released 12 12\nevent clicked 12 12\n63 ok\n64 ok\n65 ok\n"
      ++ codes "event pressed 12 12\n66 ok\nevent released 12 12\nevent clicked 12 12\n67 ok\n"
      ++ codes "event pressed 12 12\n68 ok\nevent released 12 12\nevent clicked 12 12\n69 ok\n"
      ++ codes "70 ok\n";
}

abbrev pub scroll_10 : Sample
scroll_10 = record {
  words = codes "24 24 24 handlers=60";
  script = codes "new 10 3 obj\nsize 10 11 17\nflag 10 scrollable on\non 10 pressed say\n"
      ++ codes "on 10 clicked say\non 10 short_clicked say\nnew 11 3 obj\nsize 11 27 38\n"
      ++ codes "flag 11 scrollable on\non 11 pressed say\non 11 clicked say\non 11 released say\n"
      ++ codes "new 12 11 checkbox\nsize 12 30 13\npos 12 -2 8\non 12 pressed say\n"
      ++ codes "on 12 clicked say\non 12 pressing say\ntouch 17 9\ntouch 18 15\ntouch 30 3\n"
      ++ codes "touch 17 9\non 10 released flag target scrollable on\ntouch 21 -2\ntick 500\n"
      ++ codes "on 10 pressing delete target\ntouch 13 5\ntouch 12 12\ntouch 10 4\n"
      ++ codes "on 11 pressing delete target\nscroll 10 8191 7\ntouch 16 -7\nnew 13 11 obj\n"
      ++ codes "size 13 36 31\nflag 13 scrollable on\non 13 pressed say\non 13 clicked say\n"
      ++ codes "on 13 long_pressed say\nscroll 13 3 2\nnew 14 13 checkbox\nsize 14 38 37\n"
      ++ codes "flag 14 scrollable on\non 14 pressed say\non 14 clicked say\non 14 pressing say\n"
      ++ codes "tick 500\nrelease\nstate 11 disabled off\ntick 100\ntouch 2 21\ntouch 1 19\n"
      ++ codes "touch -13 30\nrelease\ntouch 3 3\nrelease\ntouch 3 11\nrelease\ntouch 3 20\n"
      ++ codes "release\ntouch 11 3\nrelease\ntouch 11 11\nrelease\ntouch 11 20\nrelease\n"
      ++ codes "touch 20 3\nrelease\ntouch 20 11\nrelease\ntouch 20 20\n";
  log = codes "1 ok\n2 ok\n3 ok\n4 ok\n5 ok\n6 ok\n7 ok\n8 ok\n9 ok\n10 ok\n11 ok\n12 ok\n"
      ++ codes "13 ok\n14 ok\n15 ok\n16 ok\n17 ok\n18 ok\nevent pressed 12 12\n19 ok\n"
      ++ codes "event pressing 12 12\n20 ok\nevent pressing 12 12\n21 ok\nevent pressing 12 12\n"
      ++ codes "22 ok\n23 ok\nevent pressing 12 12\n24 ok\n25 ok\n26 ok\nevent pressing 12 12\n"
      ++ codes "27 ok\nevent pressing 12 12\n28 ok\nevent pressing 12 12\n29 ok\n30 ok\n31 ok\n"
      ++ codes "event pressing 12 12\n32 ok\n33 ok\n34 ok\n35 ok\n36 ok\n37 ok\n38 ok\n39 ok\n"
      ++ codes "40 ok\n41 ok\n42 ok\n43 ok\n44 ok\n45 ok\n46 ok\n47 ok\n48 ok\n49 ok\n"
      ++ codes "event pressed 14 14\n50 ok\nevent pressing 14 14\n51 ok\nevent pressing 14 14\n"
      ++ codes "52 ok\n53 ok\nevent pressed 14 14\n54 ok\nevent clicked 14 14\n55 ok\n"
      ++ codes "event pressed 14 14\n56 ok\nevent clicked 14 14\n57 ok\nevent pressed 14 14\n"
      ++ codes "58 ok\nevent clicked 14 14\n59 ok\nevent pressed 14 14\n60 ok\n"
      ++ codes "event clicked 14 14\n61 ok\nevent pressed 14 14\n62 ok\nevent clicked 14 14\n"
      ++ codes "63 ok\nevent pressed 14 14\n64 ok\nevent clicked 14 14\n65 ok\n"
      ++ codes "event pressed 14 14\n66 ok\nevent clicked 14 14\n67 ok\nevent pressed 14 14\n"
      ++ codes "68 ok\nevent clicked 14 14\n69 ok\nevent pressed 14 14\n70 ok\n";
}

abbrev pub scroll_11 : Sample
scroll_11 = record {
  words = codes "24 24 24 handlers=60";
  script = codes "new 10 3 obj\nsize 10 37 31\nflag 10 scrollable on\non 10 pressed say\n"
      ++ codes "on 10 clicked say\non 10 released say\nnew 11 10 obj\nsize 11 34 28\n"
      ++ codes "flag 11 scrollable on\non 11 pressed say\non 11 clicked say\n"
      ++ codes "on 11 short_clicked say\nnew 12 11 list\nsize 12 31 32\nflag 12 scrollable on\n"
      ++ codes "pos 12 8 -3\non 12 pressed say\non 12 clicked say\non 12 pressing say\n"
      ++ codes "touch 5 14\nscroll 12 3 7\ntick 400\ntouch 12 12\nstate 10 disabled off\n"
      ++ codes "touch 23 21\ntouch 13 22\ntouch 27 34\ntouch 38 28\nscroll 12 9 7\ntick 0\n"
      ++ codes "release\nflex 10 row_wrap\nnew 13 12 checkbox\nsize 13 31 23\non 13 pressed say\n"
      ++ codes "on 13 clicked say\non 13 released say\ntouch 15 22\ntouch 9 32\ntouch 10 24\n"
      ++ codes "local 12 main:scrolled pad_left 4\ntouch 21 32\ntouch 11 4\ntouch 2 -1\n"
      ++ codes "scroll 10 0 8191\ntouch -2 -15\ntouch -2 -7\nrelease\ntick 50\ntouch 23 9\n"
      ++ codes "release\nlocal 10 main:scrolled pad_left 5\nrelease\ntouch 3 3\nrelease\n"
      ++ codes "touch 3 11\nrelease\ntouch 3 20\nrelease\ntouch 11 3\nrelease\ntouch 11 11\n"
      ++ codes "release\ntouch 11 20\nrelease\ntouch 20 3\nrelease\ntouch 20 11\nrelease\n"
      ++ codes "touch 20 20\n";
  log = codes "1 ok\n2 ok\n3 ok\n4 ok\n5 ok\n6 ok\n7 ok\n8 ok\n9 ok\n10 ok\n11 ok\n12 ok\n"
      ++ codes "13 ok\n14 ok\n15 ok\n16 ok\n17 ok\n18 ok\n19 ok\nevent pressed 11 11\n20 ok\n"
      ++ codes "21 ok\n22 ok\n23 ok\n24 ok\n25 ok\n26 ok\n27 ok\n28 ok\n29 ok\n30 ok\n31 ok\n"
      ++ codes "32 ok\n33 ok\n34 ok\n35 ok\n36 ok\n37 ok\nevent pressed 13 13\n38 ok\n39 ok\n"
      ++ codes "40 ok\n41 ok\n42 ok\n43 ok\n44 ok\n45 ok\n46 ok\n47 ok\nevent released 13 13\n"
      ++ codes "48 ok\n49 ok\nevent pressed 13 13\n50 ok\nevent released 13 13\n"
      ++ codes "event clicked 13 13\n51 ok\n52 ok\n53 ok\nevent pressed 11 11\n54 ok\n"
      ++ codes "event short_clicked 11 11\nevent clicked 11 11\n55 ok\nevent pressed 11 11\n"
      ++ codes "56 ok\nevent short_clicked 11 11\nevent clicked 11 11\n57 ok\n"
      ++ codes "event pressed 11 11\n58 ok\nevent short_clicked 11 11\nevent clicked 11 11\n"
      ++ codes "59 ok\nevent pressed 13 13\n60 ok\nevent released 13 13\nevent clicked 13 13\n"
      ++ codes "61 ok\nevent pressed 13 13\n62 ok\nevent released 13 13\nevent clicked 13 13\n"
      ++ codes "63 ok\nevent pressed 13 13\n64 ok\nevent released 13 13\nevent clicked 13 13\n"
      ++ codes "65 ok\nevent pressed 13 13\n66 ok\nevent released 13 13\nevent clicked 13 13\n"
      ++ codes "67 ok\nevent pressed 13 13\n68 ok\nevent released 13 13\nevent clicked 13 13\n"
      ++ codes "69 ok\nevent pressed 13 13\n70 ok\n";
}

abbrev pub scroll_12 : Sample
scroll_12 = record {
  words = codes "24 24 24 handlers=60";
  script = codes "new 10 3 obj\nsize 10 11 16\nflag 10 scrollable on\npos 10 3 8\n"
      ++ codes "on 10 pressed say\non 10 clicked say\non 10 long_pressed say\nnew 11 3 obj\n"
      ++ codes "size 11 14 33\nflag 11 scrollable on\npos 11 -1 6\non 11 pressed say\n"
      ++ codes "on 11 clicked say\non 11 pressing say\nnew 12 3 obj\nsize 12 34 32\n"
      ++ codes "flag 12 scrollable on\non 12 pressed say\non 12 clicked say\non 12 released say\n"
      ++ codes "touch 1 1\non 12 released flag target scrollable on\n"
      ++ codes "local 10 main:scrolled pad_left 5\ntouch -3 8\ntouch -12 6\ntouch 1 12\n"
      ++ codes "touch -2 25\nnew 13 11 list\nsize 13 21 20\nflag 13 scrollable on\n"
      ++ codes "on 13 pressed say\non 13 clicked say\non 13 pressing say\ntouch 12 33\n"
      ++ codes "touch 8 37\ntouch -1 31\ntouch 6 7\ntouch -8 2\nnew 14 11 list\nsize 14 23 32\n"
      ++ codes "flag 14 scrollable on\npos 14 11 10\non 14 pressed say\non 14 clicked say\n"
      ++ codes "on 14 long_pressed say\nscroll 11 30 8191\ntick 400\ndelete 14\ntouch -3 -9\n"
      ++ codes "release\ntouch 0 11\ntouch -6 16\nrelease\ntouch 3 3\nrelease\ntouch 3 11\n"
      ++ codes "release\ntouch 3 20\nrelease\ntouch 11 3\nrelease\ntouch 11 11\nrelease\n"
      ++ codes "touch 11 20\nrelease\ntouch 20 3\nrelease\ntouch 20 11\nrelease\ntouch 20 20\n";
  log = codes "1 ok\n2 ok\n3 ok\n4 ok\n5 ok\n6 ok\n7 ok\n8 ok\n9 ok\n10 ok\n11 ok\n12 ok\n"
      ++ codes "13 ok\n14 ok\n15 ok\n16 ok\n17 ok\n18 ok\n19 ok\n20 ok\nevent pressed 12 12\n"
      ++ codes "21 ok\n22 ok\n23 ok\n24 ok\n25 ok\n26 ok\n27 ok\n28 ok\n29 ok\n30 ok\n31 ok\n"
      ++ codes "32 ok\n33 ok\n34 ok\n35 ok\n36 ok\n37 ok\n38 ok\n39 ok\n40 ok\n41 ok\n42 ok\n"
      ++ codes "43 ok\n44 ok\n45 ok\n46 ok\n47 ok\n48 ok\n49 ok\nevent released 12 12\n"
      ++ codes "event clicked 12 12\n50 ok\nevent pressed 12 12\n51 ok\n52 ok\n"
      ++ codes "event released 12 12\nevent clicked 12 12\n53 ok\nevent pressed 12 12\n54 ok\n"
      ++ codes "event released 12 12\nevent clicked 12 12\n55 ok\nevent pressed 12 12\n56 ok\n"
      ++ codes "event released 12 12\nevent clicked 12 12\n57 ok\nevent pressed 12 12\n58 ok\n"
      ++ codes "event released 12 12\nevent clicked 12 12\n59 ok\nevent pressed 12 12\n60 ok\n"
      ++ codes "event released 12 12\nevent clicked 12 12\n61 ok\nevent pressed 12 12\n62 ok\n"
      ++ codes "event released 12 12\nevent clicked 12 12\n63 ok\nevent pressed 12 12\n64 ok\n"
      ++ codes "event released 12 12\nevent clicked 12 12\n65 ok\nevent pressed 12 12\n66 ok\n"
      ++ codes "event released 12 12\nevent clicked 12 12\n67 ok\nevent pressed 12 12\n68 ok\n"
      ++ codes "event released 12 12\nevent clicked 12 12\n69 ok\nevent pressed 12 12\n70 ok\n";
}

abbrev pub drag_corner_1 : Sample
drag_corner_1 = record {
  words = codes "24 24 24 handlers=60";
  script = codes "new 10 3 obj\nsize 10 24 24\nflag 10 scrollable on\nnew 11 10 obj\n"
      ++ codes "size 11 40 9\npos 11 0 0\non 11 clicked say\nnew 12 10 obj\nsize 12 40 9\n"
      ++ codes "pos 12 0 9\non 12 clicked say\nnew 13 10 obj\nsize 13 40 9\npos 13 0 18\n"
      ++ codes "on 13 clicked say\nnew 14 10 obj\nsize 14 40 9\npos 14 0 27\non 14 clicked say\n"
      ++ codes "new 15 10 obj\nsize 15 40 9\npos 15 0 36\non 15 clicked say\non 12 pressed say\n"
      ++ codes "on 12 pressing say\non 12 released say\non 12 short_clicked say\n"
      ++ codes "on 12 long_pressed say\non 12 long_pressed_repeat say\ntouch 12 12\ntouch 12 3\n"
      ++ codes "touch 21 21\nrelease\ntouch 12 12\ntouch 12 2\nrelease\nscroll 10 0 0\n"
      ++ codes "touch 12 12\ntouch 2 2\ntouch 22 2\nrelease\nscroll 10 0 0\ntouch 12 12\n"
      ++ codes "touch 2 3\ntouch 2 23\nrelease\nscroll 10 0 0\ntouch 12 12\ntouch 12 1\n"
      ++ codes "touch 12 12\ntouch 12 23\ntouch 12 12\nrelease\ntouch 12 12\ntouch 12 -4000\n"
      ++ codes "touch 12 -3990\ntouch 12 4000\ntouch 12 -4000\nrelease\ntouch 3 3\nrelease\n"
      ++ codes "touch 3 22\nrelease\n";
  log = codes "1 ok\n2 ok\n3 ok\n4 ok\n5 ok\n6 ok\n7 ok\n8 ok\n9 ok\n10 ok\n11 ok\n12 ok\n"
      ++ codes "13 ok\n14 ok\n15 ok\n16 ok\n17 ok\n18 ok\n19 ok\n20 ok\n21 ok\n22 ok\n23 ok\n"
      ++ codes "24 ok\n25 ok\n26 ok\n27 ok\n28 ok\n29 ok\nevent pressed 12 12\n30 ok\n"
      ++ codes "event pressing 12 12\n31 ok\nevent pressing 12 12\n32 ok\nevent released 12 12\n"
      ++ codes "event short_clicked 12 12\nevent clicked 12 12\n33 ok\nevent pressed 12 12\n"
      ++ codes "34 ok\nevent pressing 12 12\n35 ok\nevent released 12 12\n36 ok\n37 ok\n"
      ++ codes "event pressed 12 12\n38 ok\nevent pressing 12 12\n39 ok\nevent pressing 12 12\n"
      ++ codes "40 ok\nevent released 12 12\n41 ok\n42 ok\nevent pressed 12 12\n43 ok\n"
      ++ codes "event pressing 12 12\n44 ok\nevent pressing 12 12\n45 ok\nevent released 12 12\n"
      ++ codes "46 ok\n47 ok\nevent pressed 12 12\n48 ok\nevent pressing 12 12\n49 ok\n"
      ++ codes "event pressing 12 12\n50 ok\nevent pressing 12 12\n51 ok\nevent pressing 12 12\n"
      ++ codes "52 ok\nevent released 12 12\n53 ok\n54 ok\n55 ok\n56 ok\n57 ok\n58 ok\n59 ok\n"
      ++ codes "60 ok\nevent clicked 13 13\n61 ok\n62 ok\nevent clicked 15 15\n63 ok\n";
}

abbrev pub drag_corner_2 : Sample
drag_corner_2 = record {
  words = codes "24 24 24 handlers=60";
  script = codes "new 10 3 obj\nsize 10 24 24\nflag 10 scrollable on\nnew 11 10 obj\n"
      ++ codes "size 11 24 10\npos 11 0 0\non 11 pressed say\non 11 released say\n"
      ++ codes "on 11 clicked say\nnew 12 10 obj\nsize 12 24 10\npos 12 0 10\non 12 pressed say\n"
      ++ codes "on 12 released say\non 12 clicked say\nnew 13 10 obj\nsize 13 24 10\n"
      ++ codes "pos 13 0 20\non 13 pressed say\non 13 released say\non 13 clicked say\n"
      ++ codes "new 14 10 obj\nsize 14 24 10\npos 14 0 30\non 14 pressed say\n"
      ++ codes "on 14 released say\non 14 clicked say\non 12 long_pressed say\n"
      ++ codes "on 12 long_pressed_repeat say\non 12 short_clicked say\ntouch 12 15\ntick 400\n"
      ++ codes "tick 100\ntouch 12 4\ntick 100\nrelease\ntouch 12 5\ntouch 12 -6\ntick 400\n"
      ++ codes "tick 500\nrelease\nscroll 10 0 0\non 13 pressing delete target\ntouch 12 21\n"
      ++ codes "touch 12 20\ntouch 12 9\ntouch 12 7\nrelease\ntouch 3 15\nrelease\n"
      ++ codes "scroll 10 0 0\non 12 pressing state 12 disabled on\ntouch 12 12\ntouch 12 10\n"
      ++ codes "touch 12 2\nrelease\nstate 12 disabled off\ntouch 12 12\ntouch 12 1\ntouch 12 0\n"
      ++ codes "release\ntouch 3 3\nrelease\nscroll 10 0 0\ntouch 3 5\ntouch 3 -6\ndelete 10\n"
      ++ codes "touch 3 -8\nnew 10 3 obj\nsize 10 24 24\nflag 10 scrollable on\nnew 14 10 obj\n"
      ++ codes "size 14 24 12\npos 14 0 0\non 14 pressed say\non 14 clicked say\nnew 15 10 obj\n"
      ++ codes "size 15 24 12\npos 15 0 12\non 15 pressed say\non 15 clicked say\nnew 16 10 obj\n"
      ++ codes "size 16 24 12\npos 16 0 24\non 16 pressed say\non 16 clicked say\ntouch 3 -9\n"
      ++ codes "release\ntouch 3 15\nrelease\n";
  log = codes "1 ok\n2 ok\n3 ok\n4 ok\n5 ok\n6 ok\n7 ok\n8 ok\n9 ok\n10 ok\n11 ok\n12 ok\n"
      ++ codes "13 ok\n14 ok\n15 ok\n16 ok\n17 ok\n18 ok\n19 ok\n20 ok\n21 ok\n22 ok\n23 ok\n"
      ++ codes "24 ok\n25 ok\n26 ok\n27 ok\n28 ok\n29 ok\n30 ok\nevent pressed 12 12\n31 ok\n"
      ++ codes "event long_pressed 12 12\n32 ok\nevent long_pressed_repeat 12 12\n33 ok\n34 ok\n"
      ++ codes "35 ok\nevent released 12 12\n36 ok\nevent pressed 12 12\n37 ok\n38 ok\n39 ok\n"
      ++ codes "40 ok\nevent released 12 12\n41 ok\n42 ok\n43 ok\nevent pressed 13 13\n44 ok\n"
      ++ codes "45 ok\n46 ok\n47 ok\n48 ok\nevent pressed 12 12\n49 ok\nevent released 12 12\n"
      ++ codes "event short_clicked 12 12\nevent clicked 12 12\n50 ok\n51 ok\n52 ok\n"
      ++ codes "event pressed 12 12\n53 ok\n54 ok\n55 ok\n56 ok\n57 ok\nevent pressed 12 12\n"
      ++ codes "58 ok\n59 ok\n60 ok\n61 ok\n62 ok\n63 ok\n64 ok\nevent pressed 11 11\n65 ok\n"
      ++ codes "66 ok\n67 ok\n68 ok\n69 ok\n70 ok\n71 ok\n72 ok\n73 ok\n74 ok\n75 ok\n76 ok\n"
      ++ codes "77 ok\n78 ok\n79 ok\n80 ok\n81 ok\n82 ok\n83 ok\n84 ok\n85 ok\n86 ok\n87 ok\n"
      ++ codes "88 ok\nevent pressed 15 15\n89 ok\nevent clicked 15 15\n90 ok\n";
}

abbrev pub drag_corner_3 : Sample
drag_corner_3 = record {
  words = codes "24 24 24 handlers=60";
  script = codes "new 10 3 obj\nsize 10 24 24\nflag 10 scrollable on\nnew 11 10 list\n"
      ++ codes "size 11 24 16\nflag 11 scrollable on\non 11 clicked say\nnew 12 11 obj\n"
      ++ codes "size 12 40 8\non 12 clicked say\nnew 13 10 slider\nsize 13 20 6\npos 13 0 17\n"
      ++ codes "on 13 value_changed say\non 13 clicked say\nnew 14 10 obj\nsize 14 24 20\n"
      ++ codes "pos 14 0 24\non 14 clicked say\ntouch 8 4\ntouch 8 -8\ntouch -8 -8\nrelease\n"
      ++ codes "touch 22 2\nrelease\nscroll 10 0 0\ntouch 20 4\ntouch 8 4\ntouch 8 20\nrelease\n"
      ++ codes "touch 20 4\nrelease\ntouch 2 18\ntouch 15 18\ntouch 15 2\nrelease\n"
      ++ codes "scroll 10 0 30\nscroll 11 8191 9\ntouch 12 10\ntouch 12 -1\nrelease\ntouch 3 3\n"
      ++ codes "release\nscroll 10 0 0\nlocal 10 main:scrolled pad_top 12\ntouch 12 15\n"
      ++ codes "touch 12 4\ntouch 12 3\nrelease\ntouch 12 20\nrelease\ntouch 12 3\n"
      ++ codes "flag 10 scrollable off\ntouch 12 -9\nflag 10 scrollable on\ntouch 12 -20\n"
      ++ codes "flag 10 scrollable off\ntouch 12 -30\nflag 10 scrollable on\nrelease\n"
      ++ codes "touch 12 3\nrelease\nflag 3 scrollable on\npos 10 0 9\ntouch 20 12\ntouch 20 23\n"
      ++ codes "touch 20 2\nrelease\ntouch 12 2\nrelease\ntouch 12 20\nrelease\n";
  log = codes "1 ok\n2 ok\n3 ok\n4 ok\n5 ok\n6 ok\n7 ok\n8 ok\n9 ok\n10 ok\n11 ok\n12 ok\n"
      ++ codes "13 ok\n14 ok\n15 ok\n16 ok\n17 ok\n18 ok\n19 ok\n20 ok\n21 ok\n22 ok\n23 ok\n"
      ++ codes "24 ok\nevent clicked 11 11\n25 ok\n26 ok\n27 ok\n28 ok\n29 ok\n30 ok\n31 ok\n"
      ++ codes "event clicked 12 12\n32 ok\nevent value_changed 13 13\n33 ok\n"
      ++ codes "event value_changed 13 13\n34 ok\n35 ok\nevent clicked 13 13\n36 ok\n37 ok\n"
      ++ codes "38 ok\n39 ok\n40 ok\n41 ok\n42 ok\n43 ok\n44 ok\n45 ok\n46 ok\n47 ok\n48 ok\n"
      ++ codes "49 ok\n50 ok\nevent clicked 14 14\n51 ok\n52 ok\n53 ok\n54 ok\n55 ok\n56 ok\n"
      ++ codes "57 ok\n58 ok\n59 ok\n60 ok\n61 ok\nevent clicked 11 11\n62 ok\n63 ok\n64 ok\n"
      ++ codes "65 ok\n66 ok\n67 ok\n68 ok\n69 ok\n70 ok\n71 ok\nevent clicked 14 14\n72 ok\n";
}
